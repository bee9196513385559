-- What a call that names all containers tells: the logical names of the rooms, each once and in byte order.
use Rattle.std.proofs.Common.{◌≡◌, ◌⊎◌, ◌||◌, inl, inr, ℕ, zero, suc, Bool, true, false, List, [], ◌∷◌, map, Some, Result, Ok, Err, Less, refl, sym, ap, ◌∙◌, subst}
use Rattle.std.specs.Prelude.{slice_get}
use Rattle.std.specs.List.{AllByRecursion, list_any}
use Rattle.std.proofs.lemmas.Option.{same_Some}
use Rattle.std.specs.Ordering.{nat_cmp}
use Rattle.std.specs.Cmp.Lexicographic.{slice_cmp}
use Rattle.std.specs.List.Sorted.{IsStrictlySortedBy}
use Rattle.plain_file.proofs.Facts.{Among}
use Rattle.plfs_types.specs.Names.{IsLogicalName}
use Rattle.plfs_types.proofs.NameTests.{rule_passes}
use Rattle.store_api.specs.Names.{same_name}
use Rattle.store_api.specs.Step.{rooms as all_rooms}
use Rattle.store_api.specs.declared.step.Answer.TheVariants.{Names, NoFolder, NoRoom}
use Rattle.store_api.specs.declared.store.Trouble.TheVariants as trouble
use Rattle.store_api.specs.declared.tree.Room.{Room}
use Rattle.store_api.specs.declared.tree.Tree.{Tree}
use Rattle.store_laws.specs.Differ.{is_listed}
use Rattle.store_laws.specs.Says.{AreRoomNames, RoomsTell}
use Rattle.store_laws.specs.Tells.{Tells}
use Rattle.store_laws.specs.There.{AreInOrder}
use Rattle.store_laws.proofs.Facts.{acts_told, look_answered, name_eq, name_same, rooms_tell}
use Rattle.mount_model.specs.Finding.{AreLogicalOf, NamesRooms, RoomsReply}
use Rattle.mount_model.specs.Making.{Told}
use Rattle.mount_model.specs.Paths.{Name}
use Rattle.mount_model.specs.State.{State}
use Rattle.mount_model.specs.declared.reply.Reply.{Reply}
use Rattle.mount_model.specs.declared.reply.Reply.TheVariants.{Rooms}
use Rattle.mount_model.specs.declared.stuck.Stuck.{Stuck}
use Rattle.reader_laws.proofs.Gathered.Facts.{among_listed}
use Rattle.actor_core.specs.Names.{logical_among, names_told}

-- ---- lists of names

cases_or : (a b : Bool) → (a || b) ≡ true → (a ≡ true) ⊎ (b ≡ true)
cases_or true b e = inl refl
cases_or false b e = inr e

or_left : (a b : Bool) → a ≡ true → (a || b) ≡ true
or_left a b e = ap (λ x. x || b) e

or_right : (a b : Bool) → b ≡ true → (a || b) ≡ true
or_right true b e = refl
or_right false b e = e

listed_among : (name : Name) (names : List Name) → is_listed name names ≡ true → Among name names
listed_among name [] e = absurd (let clash : false ≡ true = e in cc)
listed_among name (x ∷ xs) e = elim (cases_or _ (is_listed name xs) e) as (λ _. Among name (x ∷ xs)) [
  | inl same ↦ inl (sym (name_eq x name same))
  | inr more ↦ inr (listed_among name xs more)
]

-- a room has this name
pub record IsNameOf (rooms : List Room) (name : Name) : Type 0 where
  pub number : ℕ
  pub room : Room
  pub there : slice_get rooms number ≡ Some room
  pub is : room.name ≡ name

abbrev some_room : Name → List Room → Bool
some_room name rooms = list_any (λ (room : Room). same_name room.name name) rooms

room_found : (name : Name) (rooms : List Room) → some_room name rooms ≡ true → IsNameOf rooms name
room_found name [] e = absurd (let clash : false ≡ true = e in cc)
room_found name (r ∷ rooms) e = elim (cases_or (same_name r.name name) (some_room name rooms) e) as (λ _. IsNameOf (r ∷ rooms) name) [
  | inl same ↦ record { number = 0; room = r; there = refl; is = name_eq r.name name same }
  | inr more ↦ let f = room_found name rooms more in record { number = suc f.number; room = f.room; there = f.there; is = f.is }
]

found_room : (name : Name) (rooms : List Room) (k : ℕ) (room : Room) → slice_get rooms k ≡ Some room → room.name ≡ name → some_room name rooms ≡ true
found_room name [] k room there is = absurd (cc)
found_room name (r ∷ rooms) zero room there is =
    let one : r ≡ room = same_Some r room there in
    or_left (same_name r.name name) (some_room name rooms) (name_same r.name name (ap (λ (x : Room). x.name) one ∙ is))
found_room name (r ∷ rooms) (suc k) room there is = or_right (same_name r.name name) (some_room name rooms) (found_room name rooms k room there is)

-- the names of rooms
pub name_of_room : (rooms : List Room) (name : Name) → Among name (map (λ (room : Room). room.name) rooms) → IsNameOf rooms name
name_of_room [] name at = absurd at
name_of_room (r ∷ rooms) name (inl same) = record { number = 0; room = r; there = refl; is = sym same }
name_of_room (r ∷ rooms) name (inr at) = let f = name_of_room rooms name at in record { number = suc f.number; room = f.room; there = f.there; is = f.is }

pub room_of_name : (rooms : List Room) (name : Name) (k : ℕ) (room : Room) → slice_get rooms k ≡ Some room → room.name ≡ name → Among name (map (λ (r : Room). r.name) rooms)
room_of_name [] name k room there is = absurd (cc)
room_of_name (r ∷ rooms) name zero room there is = inl (sym (ap (λ (x : Room). x.name) (same_Some r room there) ∙ is))
room_of_name (r ∷ rooms) name (suc k) room there is = inr (room_of_name rooms name k room there is)

-- ---- the logical ones among names

logical_all : (names kept : List Name) → AreLogicalOf names kept → AllByRecursion IsLogicalName kept
logical_all [] kept none = subst (AllByRecursion IsLogicalName) (sym none) tt
logical_all (n ∷ names) kept (inl (is, (rest, e, more))) = subst (AllByRecursion IsLogicalName) (sym e) (is, logical_all names rest more)
logical_all (n ∷ names) kept (inr (not, more)) = logical_all names kept more

passed : (kept : List Name) → AllByRecursion IsLogicalName kept → logical_among kept ≡ kept
passed [] all = refl
passed (name ∷ kept) all = rw (rule_passes name all.0) (ap (λ z. name ∷ z) (passed kept all.1))

first_or : (x n : Name) (rest names : List Name) → Among x (n ∷ rest) → (Among x rest → Among x names) → Among x (n ∷ names)
first_or x n rest names (inl same) more = inl same
first_or x n rest names (inr later) more = inr (more later)

of_kept : (names kept : List Name) → AreLogicalOf names kept → (x : Name) → Among x kept → Among x names
of_kept [] kept none x at = absurd (subst (Among x) none at)
of_kept (n ∷ names) kept (inl (is, (rest, e, more))) x at = first_or x n rest names (subst (Among x) e at) (λ later. of_kept names rest more x later)
of_kept (n ∷ names) kept (inr (not, more)) x at = inr (of_kept names kept more x at)

in_kept : (names kept : List Name) → AreLogicalOf names kept → (x : Name) → IsLogicalName x → Among x names → Among x kept
in_kept [] kept none x logical at = absurd at
in_kept (n ∷ names) kept (inl (is, (rest, e, more))) x logical (inl same) = subst (Among x) (sym e) (inl same)
in_kept (n ∷ names) kept (inl (is, (rest, e, more))) x logical (inr later) = subst (Among x) (sym e) (inr (in_kept names rest more x logical later))
in_kept (n ∷ names) kept (inr (not, more)) x logical (inl same) = absurd (not (subst IsLogicalName same logical))
in_kept (n ∷ names) kept (inr (not, more)) x logical (inr later) = in_kept names kept more x logical later

abbrev Below : Name → List Name → Type 0
Below name names = AllByRecursion (λ (other : Name). slice_cmp nat_cmp name other ≡ Less) names

below_kept : (name : Name) (names kept : List Name) → AreLogicalOf names kept → Below name names → Below name kept
below_kept name [] kept none all = subst (Below name) (sym none) tt
below_kept name (n ∷ names) kept (inl (is, (rest, e, more))) all = subst (Below name) (sym e) (all.0, below_kept name names rest more all.1)
below_kept name (n ∷ names) kept (inr (not, more)) all = below_kept name names kept more all.1

kept_ordered : (names kept : List Name) → AreLogicalOf names kept → AreInOrder names → AreInOrder kept
unfolding IsStrictlySortedBy
kept_ordered [] kept none order = subst AreInOrder (sym none) tt
kept_ordered (n ∷ names) kept (inl (is, (rest, e, more))) order = subst AreInOrder (sym e) (below_kept n names rest more order.0, kept_ordered names rest more order.1)
kept_ordered (n ∷ names) kept (inr (not, more)) order = kept_ordered names kept more order.1

-- ---- what is told

-- these are the logical names of the tree's rooms
pub record AreListed (tree : Tree) (names : List Name) : Type 0 where
  pub ordered : AreInOrder names
  pub logical : AllByRecursion IsLogicalName names
  pub found : (name : Name) → Among name names → IsNameOf tree.rooms name
  pub all : (name : Name) → IsLogicalName name → IsNameOf tree.rooms name → Among name names

rooms_told : (old new : State) (tree : Tree) (kept : List Name) → old.store.tree ≡ Some tree → NamesRooms old (Rooms kept) new → AreListed tree kept
rooms_told old new tree kept tells a = by a.told a.answered refl
  where
    of_names : (names : List Name) → a.told ≡ Ok (Names names) → AreLogicalOf names kept → AreListed tree kept
    of_names names is are =
        let t = acts_told all_rooms old.store new.store tree a.told tells a.made in
        let r : AreRoomNames tree names = (look_answered all_rooms tree (RoomsTell tree) (rooms_tell tree) (Names names) t.0 (subst (λ o. Tells all_rooms tree o t.0) is t.2)).1 in
        record {
          ordered = kept_ordered names kept are r.ordered;
          logical = logical_all names kept are;
          found = λ name at. room_found name tree.rooms (sym (r.exactly name) ∙ among_listed name names (of_kept names kept are name at));
          all = λ name logical is_name. in_kept names kept are name logical (listed_among name names (r.exactly name ∙ found_room name tree.rooms is_name.number is_name.room is_name.there is_name.is));
        }

    one : (x y : List Name) → Rooms x ≡ Rooms y → x ≡ y
    one x y e = cc

    by : (told : Told) → RoomsReply told (Rooms kept) → a.told ≡ told → AreListed tree kept
    by (Ok (Names names)) (others, same, are) is = of_names names is (subst (AreLogicalOf names) (sym (one kept others same)) are)
    by (Ok NoRoom) says is = absurd (cc)
    by (Ok NoFolder) says is = absurd (cc)
    by (Ok answer) says is = absurd (cc)
    by (Err trouble.Fault) says is = absurd (cc)
    by (Err trouble.NoMemory) says is = absurd (cc)

abbrev as_told : List Name → Result (List Name) Stuck
as_told names = Ok names

same_ok : (x y : List Name) → as_told x ≡ as_told y → x ≡ y
same_ok x y e = cc

told_ok : (reply : Reply) (names : List Name) → names_told reply ≡ Ok names → (kept : List Name) × (reply ≡ Rooms kept) × (logical_among kept ≡ names)
told_ok (Rooms kept) names is = (kept, refl, same_ok (logical_among kept) names is)
told_ok reply names is = absurd (cc)

-- A reply that tells these names tells those of the rooms.
pub names_listed : (old new : State) (tree : Tree) (reply : Reply) (names : List Name) → old.store.tree ≡ Some tree → NamesRooms old reply new → names_told reply ≡ Ok names → AreListed tree names
names_listed old new tree reply names tells a is =
    let k = told_ok reply names is in
    let l : AreListed tree k.0 = rooms_told old new tree k.0 tells (subst (λ r. NamesRooms old r new) k.1 a) in
    subst (AreListed tree) (sym (passed k.0 l.logical) ∙ k.2) l
