-- What is shown of rooms, one after the other.
use Rattle.std.proofs.Common.{◌≡◌, ℕ, zero, suc, ◌+◌, ◌≤◌, inl, inr, Bool, true, false, ◌||◌, List, [], ◌∷◌, length, take, get_or, Option, Some, None, Result, Ok, Err, refl, ap, sym, ◌∙◌, subst, arith}
use Rattle.std.specs.Prelude.{slice_get, IfErr, IfOk, OnOk, ◌≢◌}
use Rattle.std.specs.List.{AllByRecursion, list_any}
use Rattle.std.proofs.lemmas.List.{take_all}
use Rattle.plfs_types.specs.declared.names.Path.{Path}
use Rattle.container_layout.specs.declared.items.Item.{Item}
use Rattle.container_layout.specs.declared.items.Item.TheVariants as item
use Rattle.container_layout.specs.Paths.{path_of}
use Rattle.container_layout.proofs.Facts.{elsewhere}
use Rattle.store_api.specs.declared.tree.Room.{Room}
use Rattle.store_api.specs.declared.tree.Tree.{Tree}
use Rattle.store_api.specs.Acts.{Stored}
use Rattle.store_api.specs.Names.{same_name}
use Rattle.store_laws.specs.Differ.{is_listed}
use Rattle.store_laws.specs.Says.{AreRoomNames}
use Rattle.store_laws.specs.There.{IsFree}
use Rattle.store_laws.proofs.Facts.{name_eq, name_refl}
use Rattle.mount_model.specs.Paths.{Name, installed_item}
use Rattle.store_api.specs.Names.{marks_folder}
use Rattle.store_api.specs.Names.{marks_name}
use Rattle.mount_model.specs.declared.row.Making.{Making}
use Rattle.mount_model.specs.declared.row.Making.TheVariants as making
use Rattle.mount_sound.specs.Marks.{IsMarksRoom}
use Rattle.mount_sound.specs.Items.{HasItem, HasItemOf}
use Rattle.tree_laws.specs.Checked.{IsCheckedRoom, IsCheckedTree}
use Rattle.tree_laws.specs.Complaints.{InRoomOf}
use Rattle.tree_laws.specs.Listable.{IsListable}
use Rattle.shape_check.specs.declared.files.Place.{Place}
use Rattle.shape_check.specs.declared.finding.Complaint.{Complaint}
use Rattle.shape_check.specs.declared.finding.Finding.{Finding}
use Rattle.shape_check.specs.declared.finding.Finding.TheVariants.{Broken, Fault, Untold}
use Rattle.shape_check.specs.Files.{IsPlaced, OfPlace}
use Rattle.shape_check.specs.Places.{IsMarksPlace, OfMarks, HasMarks}
use Rattle.shape_check.specs.Rightness.{Fails, IsOfShape, IsRight}
use Rattle.shape_check.specs.Seeing.{IsSeen, IsLookedAt, IsAny}
use Rattle.shape_check.specs.Told.{TellsRoom}
use Rattle.shape_check.proofs.Facts.{listed_more, looked_on, seen_on}
use Rattle.tree_check.specs.declared.halting.Halt.{Halt}
use Rattle.tree_check.specs.Complaining.{InNamed, IsFirstOf, IsOneFound, IsRightIn, IsRightOf, IsRightOfItem, IsToldOf, TellsOfContainer, TellsOfRoom}
use Rattle.tree_check.specs.Known.{IsRightAt}
use Rattle.tree_check.specs.Rooms.{IsCheckedContainer, IsRightRoom, IsNamed, OfNamed, HasRooms, AreRight, OfTree}
use Rattle.tree_check.proofs.EachLemmas.{each_right}
use Rattle.tree_check.proofs.Failing.{all_fail_for}

-- ---- the room of marks has no items

module _ (room : Room) (is : IsMarksRoom room) where
  no_item : (it : Item) (bytes : List ℕ) → HasItem room it bytes → ((path_of it).folder ≡ marks_folder → ⊥) → ⊥
  no_item it bytes has apart = apart (ap (λ (p : Path). p.folder) (is.files (path_of it) bytes has.there).3)

  no_owner : (host writer : ℕ) → HasItemOf room host writer → ⊥
  no_owner host writer (inl (bytes, has)) = no_item (item.Index host writer) bytes has (λ e. elsewhere (ap (λ (f : Name). get_or f 0 0) e) refl)
  no_owner host writer (inr (inl (bytes, has))) = no_item (item.OpenHost host writer) bytes has (λ e. elsewhere (ap (λ (f : Name). get_or f 0 0) e) refl)
  no_owner host writer (inr (inr meta)) = no_item (item.Meta meta.last meta.bytes meta.stamp host writer) meta.content meta.has (λ e. elsewhere (ap (λ (f : Name). get_or f 1 0) e) refl)

  no_flat : (makes : Making) (id : ℕ) (bytes : List ℕ) → HasItem room (installed_item makes id) bytes → ⊥
  no_flat making.Flat id bytes has = no_item (item.Flat id) bytes has (λ e. elsewhere (ap (λ (f : Name). get_or f 0 0) e) refl)
  no_flat (making.Pack host writer) id bytes has = no_item (item.Packed host writer) bytes has (λ e. elsewhere (ap (λ (f : Name). get_or f 0 0) e) refl)

  marks_checked : IsCheckedRoom room
  marks_checked = record {
    writers = λ host writer has. absurd (no_owner host writer has);
    truncates = λ stamp size other a b has has_other. absurd (no_item (item.Trunc stamp size) a has (λ e. elsewhere (ap (λ (f : Name). get_or f 0 0) e) refl));
    flats = λ makes id bytes has. absurd (no_flat makes id bytes has);
  }

-- ---- the room of a name

-- two rooms of one name are one
same_room : (tree : Tree) (name : Name) (n m : ℕ) (a b : Room) → IsListable tree → slice_get tree.rooms n ≡ Some a → a.name ≡ name → slice_get tree.rooms m ≡ Some b → b.name ≡ name → a ≡ b
same_room tree name n m a b listable at named there also =
    let same : n ≡ m = listable.orderly.rooms_differ n m a b at there (named ∙ sym also) in
    let one : Some a ≡ Some b = sym at ∙ ap (λ (k : ℕ). slice_get tree.rooms k) same ∙ there in
    cc

-- what the store tells of the room of this name
abbrev pub ShowsRoom : Stored → Name → Option ℕ → Type 0
ShowsRoom old name found = (tree : Tree) → IsSeen old tree → TellsRoom tree name found

pub no_room_named : (marks : Option ℕ) (name : Name) (old new : Stored) → ShowsRoom old name None → Fails (IsNamed marks name) old new Untold
no_room_named marks name old new tells = record { cause = λ e. absurd (cc); right = λ tree seen has. has.there (tells tree seen) }

module _ (marks : Option ℕ) (name : Name) (number : ℕ) (old mid : Stored) (tells : ShowsRoom old name (Some number)) (looked : IsLookedAt old mid) where
  marks_place : name ≡ marks_name → (tree : Tree) → IsSeen old tree → HasMarks marks tree → IsMarksPlace number tree
  marks_place e tree seen marked = (let of = tells tree seen in record { listable = marked.listable; room = of.room; there = of.has_room; named = of.named ∙ e })

  pub marks_told : (result : Result (List Complaint) Finding) → name ≡ marks_name → IfOk result (λ found. (found ≡ []) × OfMarks IsMarksRoom number mid) → IfOk result (λ found. InNamed (TellsOfRoom found) marks name old)
  unfolding marks_place
  marks_told (Err finding) e told = tt
  marks_told (Ok found) e (none, fine) = λ tree seen marked. (
      let of = tells tree seen in
      let is : IsMarksRoom of.room = fine tree (seen_on old mid tree looked seen) (marks_place e tree seen marked) in
      (number, of.room, of.has_room, of.named, inl (record { shape = inl is; checked = marks_checked of.room is }, none)))

  pub marks_fail : {A : Type 0} (new : Stored) (result : Result A Finding) → name ≡ marks_name → IfErr result (Fails (IsMarksPlace number) mid new) → IfErr result (Fails (IsNamed marks name) old new)
  marks_fail new result e f = all_fail_for (IsNamed marks name) (IsMarksPlace number) old mid new result (λ tree seen has. marks_place e tree seen has.marked) looked f

  abbrev place : Place
  place = record { name = name; number = number; marks = marks }

  container_place : name ≢ marks_name → (tree : Tree) → IsSeen old tree → HasMarks marks tree → IsPlaced place tree
  container_place other tree seen marked = (let of = tells tree seen in record { listable = marked.listable; marks = marked.tells; room = of.room; there = of.has_room; named = of.named; other = other })

  pub container_named : (result : Result (List Complaint) Finding) → name ≢ marks_name → IfOk result (λ found. OfPlace (TellsOfContainer found) place mid) → IfOk result (λ found. InNamed (TellsOfRoom found) marks name old)
  unfolding container_place
  container_named (Err finding) other told = tt
  container_named (Ok found) other told = λ tree seen marked. (
      let of = tells tree seen in
      (number, of.room, of.has_room, of.named, inr (told tree (seen_on old mid tree looked seen) (container_place other tree seen marked))))

  pub container_named_fails : {A : Type 0} (new : Stored) (result : Result A Finding) → name ≢ marks_name → IfErr result (Fails (IsPlaced place) mid new) → IfErr result (Fails (IsNamed marks name) old new)
  container_named_fails new result other f = all_fail_for (IsNamed marks name) (IsPlaced place) old mid new result (λ tree seen has. container_place other tree seen has.marked) looked f

-- ---- what is told of it

module _ (tree : Tree) (room : Room) where
  room_fine : (found : List Complaint) → found ≡ [] → TellsOfRoom found tree room → IsRightRoom tree room
  room_fine found none (inl (fine, nothing)) = fine
  room_fine found none (inr told) = (let is : IsCheckedContainer tree room = told.none none in record { shape = inr is.shape; checked = is.checked })

  room_wrong : (found : List Complaint) → TellsOfRoom found tree room → AllByRecursion (IsRightIn tree room.name) found
  room_wrong found (inl (fine, nothing)) = subst (AllByRecursion (IsRightIn tree room.name)) (sym nothing) tt
  room_wrong found (inr told) = each_right (IsRightOfItem tree room) (λ (path : Path). IsRightAt path tree room) (IsRightIn tree room.name) (λ path complaint right. right.0) told.paths found told.each

module _ (marks : Option ℕ) (name : Name) (old : Stored) where
  -- of a room that was checked to its end
  pub named_told : (found : List Complaint) → InNamed (TellsOfRoom found) marks name old → (tree : Tree) → IsSeen old tree → IsNamed marks name tree → IsToldOf found name tree
  named_told found told tree seen has = (
      let here = told tree seen has.marked in
      record {
        right = subst (λ (n : Name). AllByRecursion (IsRightIn tree n) found) here.3 (room_wrong tree here.1 found here.4);
        none = λ none. (here.0, here.1, here.2, here.3, room_fine tree here.1 found none here.4);
        each = inr (here.0, here.1, here.2, here.3, here.4);
      })

  -- of one whose check one complaint ended
  one_told : (new : Stored) (found : List Complaint) (finding : Finding) → IsOneFound finding found → Fails (IsNamed marks name) old new finding → IsOfShape name finding → (tree : Tree) → IsSeen old tree → IsNamed marks name tree → IsToldOf found name tree
  one_told new found finding (complaint, broken, one) f shape tree seen has = (
      let right : IsRightOf tree complaint = subst (IsRight tree) broken (f.right tree seen has) in
      let kind : IsOfShape name (Broken complaint) = subst (IsOfShape name) broken shape in
      record {
        right = subst (AllByRecursion (IsRightIn tree name)) (sym one) ((right, kind.1), tt);
        none = λ none. (let clash : [] ≡ complaint ∷ [] = sym none ∙ one in absurd (cc));
        each = inl (complaint, one, kind.0);
      })

  pub one_told_all : (new : Stored) (finding : Finding) (result : Result (List Complaint) Halt) → IfOk result (IsOneFound finding) → Fails (IsNamed marks name) old new finding → IsOfShape name finding
      → IfOk result (λ found. (tree : Tree) → IsSeen old tree → IsNamed marks name tree → IsToldOf found name tree)
  one_told_all new finding (Err halt) one f shape = tt
  one_told_all new finding (Ok found) one f shape = one_told new found finding one f shape

  -- ---- the first complaint alone

  pub first_right : (found : List Complaint) (result : Result Unit Finding) → InNamed (TellsOfRoom found) marks name old → OnOk result (found ≡ []) → OnOk result (OfNamed marks name old)
  first_right found (Err finding) told none = tt
  first_right found (Ok done) told none = λ tree seen marked number room there named. (
      let here = told tree seen marked in
      subst (IsRightRoom tree) (same_room tree name here.0 number here.1 room marked.listable here.2 here.3 there named) (room_fine tree here.1 found none here.4))

  first_wrong : (found rest : List Complaint) (complaint : Complaint) (tree : Tree) (room : Name) → found ≡ complaint ∷ rest → AllByRecursion (IsRightIn tree room) found → IsRightOf tree complaint
  first_wrong found rest complaint tree room is all = (let both : AllByRecursion (IsRightIn tree room) (complaint ∷ rest) = subst (AllByRecursion (IsRightIn tree room)) is all in both.0.0)

  pub first_fails : (new : Stored) (found : List Complaint) (result : Result Unit Finding) → InNamed (TellsOfRoom found) marks name old → IfErr result (IsFirstOf found) → IfErr result (Fails (IsNamed marks name) old new)
  first_fails new found (Ok done) told first = tt
  first_fails new found (Err finding) told (complaint, rest, broken, is) = record {
    cause = λ e. (let clash : Broken complaint ≡ Fault = sym broken ∙ e in absurd (cc));
    right = λ tree seen has. (
        let here = told tree seen has.marked in
        subst (IsRight tree) (sym broken) (first_wrong found rest complaint tree here.1.name is (room_wrong tree here.1 found here.4)));
  }

-- ---- one room after the other

or_later : (a b : Bool) → b ≡ true → (a || b) ≡ true
or_later true b e = refl
or_later false b e = e

pub listed_there : (names : List Name) (i : ℕ) (name : Name) → slice_get names i ≡ Some name → is_listed name names ≡ true
listed_there [] i name at = absurd (cc)
listed_there (x ∷ xs) zero name at =
    let same : x ≡ name = cc in
    ap (λ (b : Bool). b || is_listed name xs) (ap (λ (n : Name). same_name n name) same ∙ name_refl name)
listed_there (x ∷ xs) (suc i) name at = or_later (same_name x name) (is_listed name xs) (listed_there xs i name at)

pub rooms_none : (marks : Option ℕ) (names : List Name) (old : Stored) → AreRight marks (take 0 names) old
rooms_none marks names old = λ name e. absurd (cc)

named_on : (marks : Option ℕ) (name : Name) (old mid : Stored) → IsLookedAt old mid → OfNamed marks name mid → OfNamed marks name old
named_on marks name old mid looked q = λ tree seen marked number room there named. q tree (seen_on old mid tree looked seen) marked number room there named

pub rooms_more : (marks : Option ℕ) (names : List Name) (i : ℕ) (name : Name) (old mid : Stored) → slice_get names i ≡ Some name → IsLookedAt old mid → AreRight marks (take i names) old → OfNamed marks name mid → AreRight marks (take (i + 1) names) old
rooms_more marks names i name old mid at looked before this = λ other e. (
    let next : i + 1 ≡ suc i = omega arith in
    elim (listed_more names i name other at (ap (λ (n : ℕ). is_listed other (take n names)) (sym next) ∙ e)) [
      | inl earlier ↦ before other earlier
      | inr same ↦ subst (λ (n : Name). OfNamed marks n old) same (named_on marks name old mid looked this)
    ])

pub rooms_all : (marks : Option ℕ) (names : List Name) (i : ℕ) (old : Stored) → length names ≤ i → AreRight marks (take i names) old → AreRight marks names old
rooms_all marks names i old past right = subst (λ (l : List Name). AreRight marks l old) (take_all i names past) right

pub room_fails_all : (marks : Option ℕ) (names : List Name) (i : ℕ) (name : Name) (old mid new : Stored) (result : Result Unit Finding) → slice_get names i ≡ Some name → IsLookedAt old mid → IfErr result (Fails (IsNamed marks name) mid new)
    → IfErr result (Fails (HasRooms marks names) old new)
room_fails_all marks names i name old mid new result at looked f =
    all_fail_for (HasRooms marks names) (IsNamed marks name) old mid new result (λ tree seen has. record { marked = has.marked; there = has.there name (listed_there names i name at) }) looked f

-- ---- all rooms

any_room : (rooms : List Room) (n : ℕ) (room : Room) → slice_get rooms n ≡ Some room → list_any (λ (r : Room). same_name r.name room.name) rooms ≡ true
any_room [] n room at = absurd (cc)
any_room (x ∷ xs) zero room at =
    let same : x ≡ room = cc in
    ap (λ (b : Bool). b || list_any (λ (r : Room). same_name r.name room.name) xs) (ap (λ (r : Room). same_name r.name room.name) same ∙ name_refl room.name)
any_room (x ∷ xs) (suc n) room at = or_later (same_name x.name room.name) (list_any (λ (r : Room). same_name r.name room.name) xs) (any_room xs n room at)

-- some room has the name
abbrev HasName : List Room → Name → Type 0
HasName rooms name = (n : ℕ) × (room : Room) × (slice_get rooms n ≡ Some room) × (room.name ≡ name)

found_room : (rooms : List Room) (name : Name) → list_any (λ (r : Room). same_name r.name name) rooms ≡ true → HasName rooms name
found_room [] name e = absurd (cc)
found_room (x ∷ xs) name e = elim (same_name x.name name) as (λ b. same_name x.name name ≡ b → (b || list_any (λ (r : Room). same_name r.name name) xs) ≡ true → HasName (x ∷ xs) name) [
  | true ↦ λ same _. (0, x, refl, name_eq x.name name same)
  | false ↦ λ _ rest. (let found = found_room xs name rest in (suc found.0, found.1, found.2, found.3))
] refl e

-- a name that is listed is a room's
pub names_there : (tree : Tree) (names : List Name) → AreRoomNames tree names → (name : Name) → is_listed name names ≡ true → IsFree tree name → ⊥
names_there tree names are name listed free = (
    let found = found_room tree.rooms name (sym (are.exactly name) ∙ listed) in
    free found.0 found.1 found.2 found.3)

module _ (tree : Tree) (names : List Name) (listable : IsListable tree) (are : AreRoomNames tree names) (fine : (name : Name) → is_listed name names ≡ true → InRoomOf tree name (IsRightRoom tree)) where
  each_room : (n : ℕ) (room : Room) → slice_get tree.rooms n ≡ Some room → IsRightRoom tree room
  each_room n room there = (
      let here = fine room.name (are.exactly room.name ∙ any_room tree.rooms n room there) in
      subst (IsRightRoom tree) (same_room tree room.name here.0 n here.1 room listable here.2 here.3 there refl) here.4)

  -- where the room of each name is as in a sound tree, all holds of the tree that is checked
  pub rooms_checked : IsCheckedTree tree
  rooms_checked = record {
    shaped = record { rooms_differ = listable.orderly.rooms_differ; rooms = λ n room there. (each_room n room there).shape };
    rooms = λ n room there. (each_room n room there).checked;
  }

module _ (names : List Name) (marks : Option ℕ) (old a b : Stored) (named : (tree : Tree) → IsSeen old tree → AreRoomNames tree names) (to_a : IsLookedAt old a) (tells : ShowsRoom a marks_name marks) (to_b : IsLookedAt a b) where
  marked : (tree : Tree) → IsSeen old tree → IsListable tree → HasMarks marks tree
  marked tree seen listable = record { listable = listable; tells = tells tree (seen_on old a tree to_a seen) }

  room_right : AreRight marks names b → (tree : Tree) → IsSeen old tree → IsListable tree → (n : ℕ) (room : Room) → slice_get tree.rooms n ≡ Some room → IsRightRoom tree room
  room_right right tree seen listable n room there =
      right room.name ((named tree seen).exactly room.name ∙ any_room tree.rooms n room there) tree (seen_on old b tree (looked_on old a b to_a to_b) seen) (marked tree seen listable) n room there refl

  pub tree_right : (result : Result Unit Finding) → OnOk result (AreRight marks names b) → OnOk result (OfTree old)
  tree_right (Err finding) right = tt
  tree_right (Ok done) right = λ tree seen listable. record {
    shaped = record { rooms_differ = listable.orderly.rooms_differ; rooms = λ n room there. (room_right right tree seen listable n room there).shape };
    rooms = λ n room there. (room_right right tree seen listable n room there).checked;
  }

  has_rooms : (tree : Tree) → IsSeen old tree → IsListable tree → HasRooms marks names tree
  has_rooms tree seen listable = record {
    marked = marked tree seen listable;
    there = names_there tree names (named tree seen);
  }

  pub tree_fails : (new : Stored) (result : Result Unit Finding) → IfErr result (Fails (HasRooms marks names) b new) → IfErr result (Fails IsListable old new)
  tree_fails new result f = all_fail_for IsListable (HasRooms marks names) old b new result has_rooms (looked_on old a b to_a to_b) f

pub any_fails : {A : Type 0} (P : Tree → Type 0) (old mid new : Stored) (result : Result A Finding) → IsLookedAt old mid → IfErr result (Fails IsAny mid new) → IfErr result (Fails P old new)
any_fails P old mid new result looked f = all_fail_for P IsAny old mid new result (λ tree seen has. tt) looked f
