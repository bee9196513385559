-- Who runs the program that scans a container has scanned it.
use Rattle.reader_laws.proofs.Gathered.Facts.{All-append, All-weaker, among_left, among_right}
use Rattle.std.proofs.Common.{◌≡◌, ℕ, ◌≤◌, ◌<◌, ◌%◌, nat_lt, nat_eq, true, false, List, [], ◌∷◌, ◌++◌, drop, Option, Some, None, refl, ap, sym, ◌∙◌, ◌⊎◌, inl, inr, subst, arith}
use Rattle.std.specs.Prelude.{Result, Ok, Err, if◌then◌else◌, is_some}
use Rattle.std.specs.Fmt.{decimal}
use Rattle.std.specs.List.{AllByRecursion}
use Rattle.std.proofs.lemmas.Fmt.{decimal_injective}
use Rattle.std.proofs.lemmas.Bool.{cases_Bool, cond-true, cond-false}
use Rattle.std.proofs.lemmas.Bool.Decides.{nat_tests}
use Rattle.plfs_types.specs.declared.names.Path.{Path}
use Rattle.plain_file.proofs.Facts.{Among, All-Among, cases_Option}
use Rattle.container_layout.specs.declared.items.Item.{Item}
use Rattle.container_layout.specs.declared.items.Item.TheVariants as item
use Rattle.container_layout.specs.Paths.{IsAt, hostdir_of}
use Rattle.container_layout.proofs.Facts.{one_item}
use Rattle.mount_model.specs.Paths.{Name}
use Rattle.mount_model.specs.declared.stuck.Stuck.{Stuck}
use Rattle.mount_model.specs.FlowReplies.{damage}
use Rattle.mount_model.specs.FlowListed.{file_in}
use Rattle.index_reader.specs.declared.scanning.Scan.{Scan}
use Rattle.index_reader.specs.Items.{hostdir_item}
use Rattle.index_reader.specs.Scanning.{nothing_found, owner, has_writer, placed, taken, taken_all, foreign_in, unless_foreign, scanned, owner_of}
use Rattle.index_reader.proofs.Facts.{hostdir_item-at, hostdir_item-here}
use Rattle.reader_laws.specs.Moments.{Dropping, IsNamed}
use Rattle.reader_laws.specs.GatheringListing.{AreDroppingsOf}
use Rattle.reader_laws.proofs.Calls.Calling.{same_ok}

-- what a scan's lists are of
abbrev item_type : {A : Type 0} → List A → Type 0
item_type {A} items = A

abbrev pub Owner : Type 0
Owner = item_type nothing_found.indices

-- ---- hosts of a folder

-- droppings of a host are in the folder of its number alone
pub host_of_folder : (k host : ℕ) → k < 32 → hostdir_of k ≡ hostdir_of host → host % 32 ≡ k
host_of_folder k host small same =
    let numbers : decimal (k % 32) ≡ decimal (host % 32) = ap (drop 8) same in
    let one : k % 32 ≡ host % 32 = decimal_injective (k % 32) (host % 32) (omega arith) (omega arith) numbers in
    omega (arith, one, small)

abbrev pub dropping : ℕ → Owner → Dropping
dropping room o = record { room = room; host = o.host; writer = o.writer }

-- ---- owners in order

abbrev pub Rise : List Owner → Type 0
Rise [] = Unit {0}
Rise (o ∷ owners) = AllByRecursion (λ (p : Owner). o.writer < p.writer) owners × Rise owners

has_tail : (w : ℕ) (p : Owner) (owners : List Owner) → has_writer w (p ∷ owners) ≡ false → (p.writer ≡ w → ⊥) × (has_writer w owners ≡ false)
has_tail w p owners e = elim (cases_Bool (nat_eq p.writer w)) [
  | inl here ↦ (let clash : true ≡ false = sym (ap is_some (cond-true (nat_eq p.writer w) (Some p) (owner_of w owners) here)) ∙ e in absurd (cc))
  | inr other ↦ (λ same. unlike p.writer w same other, sym (ap is_some (cond-false (nat_eq p.writer w) (Some p) (owner_of w owners) other)) ∙ e)
]
  where
    unlike : (a b : ℕ) → a ≡ b → nat_eq a b ≡ false → ⊥
    unlike a b e t = let yes_ : nat_eq a b ≡ true = grind (arith, nat_tests) in let clash : true ≡ false = sym yes_ ∙ t in cc

pub all_placed : (P : Owner → Type 0) (o : Owner) (owners : List Owner) → P o → AllByRecursion P owners → AllByRecursion P (placed o owners)
all_placed P o [] p all = (p, tt)
all_placed P o (x ∷ owners) p all = elim (nat_lt o.writer x.writer) as (λ t. AllByRecursion P (if t then o ∷ x ∷ owners else x ∷ placed o owners)) [
  | true ↦ (p, all)
  | false ↦ (all.0, all_placed P o owners p all.1)
]

less_is : (a b : ℕ) → nat_lt a b ≡ true → a < b
less_is a b t = grind (arith, nat_tests)

more_is : (a b : ℕ) → nat_lt a b ≡ false → (b ≡ a → ⊥) → b < a
more_is a b t other = let least : b ≤ a = grind (arith, nat_tests) in grind (arith, least, other)

rise_placed : (o : Owner) (owners : List Owner) → Rise owners → has_writer o.writer owners ≡ false → Rise (placed o owners)
rise_placed o [] rise none = (tt, tt)
rise_placed o (x ∷ owners) rise none = elim (nat_lt o.writer x.writer) as (λ t. nat_lt o.writer x.writer ≡ t → Rise (if t then o ∷ x ∷ owners else x ∷ placed o owners)) [
  | true ↦ λ t. (let less : o.writer < x.writer = less_is o.writer x.writer t in ((less, All-weaker (λ (p : Owner). x.writer < p.writer) (λ (p : Owner). o.writer < p.writer) owners (λ p l. omega (arith, l, less)) rise.0), rise))
  | false ↦ λ t.
      let h = has_tail o.writer x owners none in
      (all_placed (λ (p : Owner). x.writer < p.writer) o owners (more_is o.writer x.writer t h.0) rise.0, rise_placed o owners rise.1 h.1)
] refl

among_placed : (o x : Owner) (owners : List Owner) → (x ≡ o) ⊎ Among x owners → Among x (placed o owners)
among_placed o x [] (inl e) = inl e
among_placed o x [] (inr a) = absurd a
among_placed o x (p ∷ owners) a = elim (nat_lt o.writer p.writer) as (λ t. Among x (if t then o ∷ p ∷ owners else p ∷ placed o owners)) [
  | true ↦ a
  | false ↦ deeper a (λ b. among_placed o x owners b)
]
  where
    deeper : (x ≡ o) ⊎ Among x (p ∷ owners) → ((x ≡ o) ⊎ Among x owners → Among x (placed o owners)) → Among x (p ∷ placed o owners)
    deeper (inl e) put = inr (put (inl e))
    deeper (inr (inl e)) put = inl e
    deeper (inr (inr a)) put = inr (put (inr a))

-- ---- the names of one folder

-- What was found goes on with droppings: each of them is among the owners, and all owners are of them or were before.
pub record GoesOnWith (room : ℕ) (old new : Scan) (ds : List Dropping) : Type 0 where
  pub rise : Rise old.indices → Rise new.indices
  pub from : AllByRecursion (λ (o : Owner). Among o old.indices ⊎ Among (dropping room o) ds) new.indices
  pub kept : (o : Owner) → Among o old.indices → Among o new.indices
  pub found : AllByRecursion (λ (d : Dropping). (o : Owner) × Among o new.indices × (dropping room o ≡ d)) ds

among_all : {X : Type 0} (P : X → Type 0) (xs : List X) → ((x : X) → Among x xs → P x) → AllByRecursion P xs
among_all P [] f = tt
among_all P (x ∷ xs) f = (f x (inl refl), among_all P xs (λ y a. f y (inr a)))

pub goes_nowhere : (room : ℕ) (scan : Scan) → GoesOnWith room scan scan []
goes_nowhere room scan = record { rise = λ r. r; from = among_all (λ (o : Owner). Among o scan.indices ⊎ Among (dropping room o) []) scan.indices (λ o a. inl a); kept = λ o a. a; found = tt }

pub goes_both : (room : ℕ) (a b c : Scan) (here others : List Dropping) → GoesOnWith room a b here → GoesOnWith room b c others → GoesOnWith room a c (here ++ others)
goes_both room a b c here others f g = record {
  rise = λ r. g.rise (f.rise r);
  from = All-weaker (λ (o : Owner). Among o b.indices ⊎ Among (dropping room o) others) (λ (o : Owner). Among o a.indices ⊎ Among (dropping room o) (here ++ others)) c.indices (λ o w. elim w as (λ _. Among o a.indices ⊎ Among (dropping room o) (here ++ others)) [
    | inl before ↦ elim (All-Among (λ (p : Owner). Among p a.indices ⊎ Among (dropping room p) here) b.indices o f.from before) as (λ _. Among o a.indices ⊎ Among (dropping room o) (here ++ others)) [
      | inl first ↦ inl first
      | inr found ↦ inr (among_left (dropping room o) here others found)
    ]
    | inr found ↦ inr (among_right (dropping room o) here others found)
  ]) g.from;
  kept = λ o x. g.kept o (f.kept o x);
  found = All-append (λ (d : Dropping). (o : Owner) × Among o c.indices × (dropping room o ≡ d)) here others
      (All-weaker (λ (d : Dropping). (o : Owner) × Among o b.indices × (dropping room o ≡ d)) (λ (d : Dropping). (o : Owner) × Among o c.indices × (dropping room o ≡ d)) here (λ d w. (w.0, g.kept w.0 w.1, w.2)) f.found) g.found;
}

placed_goes : (room : ℕ) (scan : Scan) (host writer : ℕ) → has_writer writer scan.indices ≡ false → GoesOnWith room scan (record { indices = placed (owner host writer) scan.indices; packs = scan.packs }) (record { room = room; host = host; writer = writer } ∷ [])
placed_goes room scan host writer none = record {
  rise = λ r. rise_placed (owner host writer) scan.indices r none;
  from = all_placed (λ (o : Owner). Among o scan.indices ⊎ Among (dropping room o) (record { room = room; host = host; writer = writer } ∷ [])) (owner host writer) scan.indices (inr (inl refl))
      (among_all (λ (o : Owner). Among o scan.indices ⊎ Among (dropping room o) (record { room = room; host = host; writer = writer } ∷ [])) scan.indices (λ o a. inl a));
  kept = λ o a. among_placed (owner host writer) o scan.indices (inr a);
  found = ((owner host writer, among_placed (owner host writer) (owner host writer) scan.indices (inl refl), refl), tt);
}

-- ---- packed indices

-- What was found goes on with the packed indices that are named so: they are there, and all new ones are of them.
pub record PacksGoOn (old new : List Owner) (Named : Owner → Type 0) : Type 0 where
  pub from : (o : Owner) → Among o new → Among o old ⊎ Named o
  pub kept : (o : Owner) → Among o old → Among o new
  pub found : (o : Owner) → Named o → Among o new

pub packs_nowhere : (packs : List Owner) (Named : Owner → Type 0) → ((o : Owner) → Named o → ⊥) → PacksGoOn packs packs Named
packs_nowhere packs Named none = record { from = λ o a. inl a; kept = λ o a. a; found = λ o n. absurd (none o n) }

pub packs_both : (a b c : List Owner) (A B All_ : Owner → Type 0) → PacksGoOn a b A → PacksGoOn b c B → ((o : Owner) → A o → All_ o) → ((o : Owner) → B o → All_ o) → ((o : Owner) → All_ o → A o ⊎ B o) → PacksGoOn a c All_
packs_both a b c A B All_ f g one other split = record {
  from = λ o x. elim (g.from o x) as (λ _. Among o a ⊎ All_ o) [
    | inl before ↦ elim (f.from o before) as (λ _. Among o a ⊎ All_ o) [ inl first ↦ inl first | inr named ↦ inr (one o named) ]
    | inr named ↦ inr (other o named)
  ];
  kept = λ o x. g.kept o (f.kept o x);
  found = λ o n. elim (split o n) as (λ _. Among o c) [ inl here ↦ g.kept o (f.found o here) | inr later ↦ g.found o later ];
}

-- the name is that of the packed index of this owner
abbrev pub NamesOwner : Name → Name → Owner → Type 0
NamesOwner folder name o = IsAt (file_in folder name) (item.Packed o.host o.writer)

-- one of the names is
abbrev pub NameOwner : Name → List Name → Owner → Type 0
NameOwner folder names o = (name : Name) × Among name names × NamesOwner folder name o

named_first : (folder name : Name) (names : List Name) (o : Owner) → NameOwner folder (name ∷ names) o → NamesOwner folder name o ⊎ NameOwner folder names o
named_first folder name names o (other, inl same, at) = inl (subst (λ n. NamesOwner folder n o) same at)
named_first folder name names o (other, inr a, at) = inr (other, a, at)

-- a name that is no packed index's
packs_passed : (folder name : Name) (names : List Name) (old new : List Owner) → ((o : Owner) → NamesOwner folder name o → ⊥) → PacksGoOn old new (NameOwner folder names) → PacksGoOn old new (NameOwner folder (name ∷ names))
packs_passed folder name names old new none h = packs_both old old new (NamesOwner folder name) (NameOwner folder names) (NameOwner folder (name ∷ names)) (packs_nowhere old (NamesOwner folder name) none) h
    (λ o at. (name, inl refl, at)) (λ o n. (n.0, inr n.1, n.2)) (named_first folder name names)

same_owner : (o : Owner) (host writer : ℕ) → item.Packed o.host o.writer ≡ item.Packed host writer → o ≡ owner host writer
same_owner o host writer e = let h : o.host ≡ host = cc in let w : o.writer ≡ writer = cc in (λ i. owner (h i) (w i))

-- a packed index's
packs_taken : (folder name : Name) (names : List Name) (old new : List Owner) (host writer : ℕ) → IsAt (file_in folder name) (item.Packed host writer) → PacksGoOn (placed (owner host writer) old) new (NameOwner folder names) → PacksGoOn old new (NameOwner folder (name ∷ names))
packs_taken folder name names old new host writer at h =
    let p : Owner = owner host writer in
    let here : PacksGoOn old (placed p old) (NamesOwner folder name) = record {
      from = λ o a. All-Among (λ (x : Owner). Among x old ⊎ NamesOwner folder name x) (placed p old) o (all_placed (λ (x : Owner). Among x old ⊎ NamesOwner folder name x) p old (inr at) (among_all (λ (x : Owner). Among x old ⊎ NamesOwner folder name x) old (λ x b. inl b))) a;
      kept = λ o a. among_placed p o old (inr a);
      found = λ o named. among_placed p o old (inl (same_owner o host writer (one_item (file_in folder name) (item.Packed o.host o.writer) (item.Packed host writer) named at)));
    } in
    packs_both old (placed p old) new (NamesOwner folder name) (NameOwner folder names) (NameOwner folder (name ∷ names)) here h (λ o named. (name, inl refl, named)) (λ o n. (n.0, inr n.1, n.2)) (named_first folder name names)

-- ---- one folder

-- the droppings of names of one folder, and what was found with them
pub record HasTaken (room k : ℕ) (names : List Name) (old new : Scan) : Type 0 where
  pub ds : List Dropping
  pub are : AreDroppingsOf room k names ds
  pub named : AllByRecursion IsNamed ds
  pub goes : GoesOnWith room old new ds
  pub packs : PacksGoOn old.packs new.packs (NameOwner (hostdir_of k) names)

module _ (room k : ℕ) (small : k < 32) where
  abbrev folder_ : Name
  folder_ = hostdir_of k

  -- a name is no packed index's where it is another item's, or none's
  no_pack : (name : Name) (found : Option Item) → hostdir_item (file_in folder_ name) ≡ found → ((host writer : ℕ) → found ≡ Some (item.Packed host writer) → ⊥) → (o : Owner) → NamesOwner folder_ name o → ⊥
  no_pack name found is other o at = other o.host o.writer (sym is ∙ hostdir_item-here (file_in folder_ name) (item.Packed o.host o.writer) refl at)

  -- a name that is no index dropping's is passed over, and so is one that is no packed index's
  passed : (name : Name) (names : List Name) (old new : Scan) (found : Option Item) → hostdir_item (file_in folder_ name) ≡ found → ((host writer : ℕ) → found ≡ Some (item.Index host writer) → ⊥) → ((host writer : ℕ) → found ≡ Some (item.Packed host writer) → ⊥) → HasTaken room k names old new → HasTaken room k (name ∷ names) old new
  passed name names old new found is other unpacked h = record {
    ds = h.ds;
    named = h.named;
    are = inr (λ d its. other d.host d.writer (sym is ∙ hostdir_item-here (file_in folder_ name) (item.Index d.host d.writer) refl its.named), h.are);
    goes = h.goes;
    packs = packs_passed folder_ name names old.packs new.packs (no_pack name found is unpacked) h.packs;
  }

  one_taken : (name : Name) (names : List Name) (old new : Scan) (host writer : ℕ) → hostdir_item (file_in folder_ name) ≡ Some (item.Index host writer) → has_writer writer old.indices ≡ false → HasTaken room k names (record { indices = placed (owner host writer) old.indices; packs = old.packs }) new → HasTaken room k (name ∷ names) old new
  one_taken name names old new host writer found none h =
      let at : IsAt (file_in folder_ name) (item.Index host writer) = hostdir_item-at (file_in folder_ name) (item.Index host writer) found in
      let d : Dropping = record { room = room; host = host; writer = writer } in
      record {
        ds = d ∷ h.ds;
        named = (at.is_item, h.named);
        are = inl (d, h.ds, record { room_is = refl; folder = host_of_folder k host small (ap (λ (p : Path). p.folder) at.printed); named = at }, refl, h.are);
        goes = goes_both room old (record { indices = placed (owner host writer) old.indices; packs = old.packs }) new (d ∷ []) h.ds (placed_goes room old host writer none) h.goes;
        packs = packs_passed folder_ name names old.packs new.packs (no_pack name (Some (item.Index host writer)) found (λ other_host other is. (cc))) h.packs;
      }

  -- a packed index is one more
  pack_taken : (name : Name) (names : List Name) (old new : Scan) (host writer : ℕ) → hostdir_item (file_in folder_ name) ≡ Some (item.Packed host writer) → HasTaken room k names (record { indices = old.indices; packs = placed (owner host writer) old.packs }) new → HasTaken room k (name ∷ names) old new
  pack_taken name names old new host writer found h = record {
    ds = h.ds;
    named = h.named;
    are = inr (λ d its. (let clash : Some (item.Packed host writer) ≡ Some (item.Index d.host d.writer) = sym found ∙ hostdir_item-here (file_in folder_ name) (item.Index d.host d.writer) refl its.named in cc), h.are);
    goes = record { rise = h.goes.rise; from = h.goes.from; kept = h.goes.kept; found = h.goes.found };
    packs = packs_taken folder_ name names old.packs new.packs host writer (hostdir_item-at (file_in folder_ name) (item.Packed host writer) found) h.packs;
  }

  never_damaged : {X : Type 0} (x : X) (why : Stuck) → ◌≡◌ {A = Result X Stuck} (Err why) (Ok x) → ⊥
  never_damaged x why e = cc

  by_item : (name : Name) (names : List Name) (old new : Scan) (it : Item) → hostdir_item (file_in folder_ name) ≡ Some it → taken (file_in folder_ name) (Some it) old (λ more. taken_all folder_ names more) ≡ Ok new
      → ((more : Scan) → taken_all folder_ names more ≡ Ok new → HasTaken room k names more new) → HasTaken room k (name ∷ names) old new
  by_item name names old new (item.Index host writer) found made later = elim (has_writer writer old.indices) as (λ t. has_writer writer old.indices ≡ t
      → (if t then Err (damage (file_in folder_ name) 0) else taken_all folder_ names (record { indices = placed (owner host writer) old.indices; packs = old.packs })) ≡ Ok new → HasTaken room k (name ∷ names) old new) [
        | true ↦ λ t e. absurd (never_damaged new (damage (file_in folder_ name) 0) e)
        | false ↦ λ t e. one_taken name names old new host writer found t (later (record { indices = placed (owner host writer) old.indices; packs = old.packs }) e)
      ] refl made
  by_item name names old new (item.Packed host writer) found made later = elim (has_writer writer old.packs) as (λ t.
      (if t then Err (damage (file_in folder_ name) 0) else taken_all folder_ names (record { indices = old.indices; packs = placed (owner host writer) old.packs })) ≡ Ok new → HasTaken room k (name ∷ names) old new) [
        | true ↦ λ e. absurd (never_damaged new (damage (file_in folder_ name) 0) e)
        | false ↦ λ e. pack_taken name names old new host writer found (later (record { indices = old.indices; packs = placed (owner host writer) old.packs }) e)
      ] made
  by_item name names old new other found made later =
      passed name names old new (Some other) found (λ host writer is. (cc)) (λ host writer is. (cc)) (later old made)

  all_taken : (names : List Name) (old new : Scan) → taken_all folder_ names old ≡ Ok new → HasTaken room k names old new
  all_taken [] old new made = record {
    ds = [];
    are = refl;
    named = tt;
    goes = subst (λ x. GoesOnWith room old x []) (same_ok old new made) (goes_nowhere room old);
    packs = subst (λ (x : Scan). PacksGoOn old.packs x.packs (NameOwner folder_ [])) (same_ok old new made) (packs_nowhere old.packs (NameOwner folder_ []) (λ o n. n.1));
  }
  all_taken (name ∷ names) old new made = elim (cases_Option (hostdir_item (file_in folder_ name))) [
    | inl none ↦
        passed name names old new None none (λ host writer is. (cc)) (λ host writer is. (cc))
        (all_taken names old new (sym (ap (λ o. taken (file_in folder_ name) o old (λ more. taken_all folder_ names more)) none) ∙ made))
    | inr (it, found) ↦
        by_item name names old new it found (sym (ap (λ o. taken (file_in folder_ name) o old (λ more. taken_all folder_ names more)) found) ∙ made)
        (λ more e. all_taken names more new e)
  ]

  -- What the names of the folder show are its droppings and its packed indices.
  pub folder_taken : (names : List Name) (old new : Scan) → scanned folder_ names old ≡ Ok new → HasTaken room k names old new
  folder_taken names old new made = elim (cases_Option (foreign_in folder_ names)) [
    | inl none ↦ all_taken names old new (sym (ap (λ o. unless_foreign folder_ o (taken_all folder_ names old)) none) ∙ made)
    | inr (name, some) ↦ absurd (never_damaged new (damage (file_in folder_ name) 0) (sym (ap (λ o. unless_foreign folder_ o (taken_all folder_ names old)) some) ∙ made))
  ]
