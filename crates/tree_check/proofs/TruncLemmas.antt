-- What is shown of the truncates of a container.
use Rattle.std.proofs.Common.{◌≡◌, ℕ, zero, suc, ◌+◌, ◌≤◌, ◌⊎◌, inl, inr, ◌↔◌, Bool, true, false, List, [], ◌∷◌, ◌++◌, length, take, Option, Some, None, Result, Ok, Err, refl, ap, sym, ◌∙◌, subst, arith}
use Rattle.std.specs.Prelude.{slice_get, IfErr, IfSome, IsTrue}
use Rattle.std.proofs.lemmas.Bool.{cases_eq}
use Rattle.std.proofs.lemmas.List.{take_all}
use Rattle.plfs_types.specs.declared.names.Path.{Path}
use Rattle.plfs_types.specs.declared.entries.Trunc.{Trunc}
use Rattle.container_layout.specs.declared.items.Item.{Item}
use Rattle.container_layout.specs.declared.items.Item.TheVariants as item
use Rattle.container_layout.specs.Paths.{IsAt, path_of}
use Rattle.container_layout.proofs.Facts.{one_item}
use Rattle.store_api.specs.declared.tree.Room.{Room}
use Rattle.store_api.specs.declared.tree.Tree.{Tree}
use Rattle.store_api.specs.Acts.{Stored}
use Rattle.store_laws.specs.Files.{file_at}
use Rattle.mount_model.specs.Paths.{Name}
use Rattle.mount_sound.specs.Items.{HasItem}
use Rattle.mount_sound.specs.Sound.{TruncatesDiffer}
use Rattle.shape_check.specs.declared.files.Place.{Place}
use Rattle.shape_check.specs.declared.finding.Finding.{Finding}
use Rattle.shape_check.specs.declared.finding.Finding.TheVariants.{Fault}
use Rattle.shape_check.specs.Files.{IsPlaced, OfPlace}
use Rattle.shape_check.specs.Rightness.{Fails, IsRight}
use Rattle.shape_check.specs.Shape.{IsOneOf, HasShape}
use Rattle.shape_check.proofs.Facts.{one_more}
use Rattle.tree_check.specs.Droppings.{IsTruncOf}
use Rattle.tree_check.specs.Truncates.{trunc_in_item, IsTruncAt, IsOtherSize, HasOtherSize, AddsTruncAt, IsTwiceAt, AreTruncsAt, IsTwoTruncs, AreTruncsOf}
use Rattle.tree_check.proofs.DroppingLemmas.{one_more_trunc, trunc_there}
use Rattle.tree_check.proofs.Failing.{denied}
use Rattle.tree_check.proofs.OwnerLemmas.{still_one, path_there, front_one}

-- ---- one item

of_item : (it : Item) (trunc : Trunc) → trunc_in_item it ≡ Some trunc → it ≡ item.Trunc trunc.stamp trunc.size
of_item (item.Trunc stamp size) trunc e =
    let same : record { stamp = stamp; size = size } ≡ trunc = cc in
    ap (λ (t : Trunc). item.Trunc t.stamp t.size) same
of_item item.Access trunc e = absurd (cc)
of_item (item.OpenHost host writer) trunc e = absurd (cc)
of_item (item.Meta last bytes stamp host writer) trunc e = absurd (cc)
of_item (item.Flat id) trunc e = absurd (cc)
of_item (item.TmpFlat id) trunc e = absurd (cc)
of_item (item.Index host writer) trunc e = absurd (cc)
of_item (item.Log host writer) trunc e = absurd (cc)
of_item (item.Packed host writer) trunc e = absurd (cc)
of_item (item.TmpPacked host id) trunc e = absurd (cc)

pub trunc_found : (path : Path) (it : Item) (result : Option Trunc) → IsAt path it → result ≡ trunc_in_item it → IfSome result (IsTruncAt path)
trunc_found path it None at e = tt
trunc_found path it (Some trunc) at e = subst (IsAt path) (of_item it trunc (sym e)) at

pub trunc_only : (path : Path) (it : Item) (result : Option Trunc) (trunc : Trunc) → IsAt path it → result ≡ trunc_in_item it → IsTruncAt path trunc → result ≡ Some trunc
trunc_only path it result trunc at e also =
    let same : it ≡ item.Trunc trunc.stamp trunc.size = one_item path it (item.Trunc trunc.stamp trunc.size) at also in
    e ∙ ap trunc_in_item same

-- ---- another of its stamp

-- none of the first so many is
abbrev pub NoneOther : List Trunc → Trunc → ℕ → Type 0
NoneOther truncs trunc i = HasOtherSize (take i truncs) trunc → ⊥

pub other_none : (truncs : List Trunc) (trunc : Trunc) → NoneOther truncs trunc 0
other_none truncs trunc has = absurd has.1

pub other_here : (truncs : List Trunc) (trunc : Trunc) (i : ℕ) (other : Trunc) → slice_get truncs i ≡ Some other → other.stamp ≡ trunc.stamp → (other.size ≡ trunc.size → ⊥) → HasOtherSize truncs trunc
other_here truncs trunc i other at same apart = (other, trunc_there truncs i other at, same, apart)

pub other_more : (truncs : List Trunc) (trunc : Trunc) (i : ℕ) (other : Trunc) → slice_get truncs i ≡ Some other → NoneOther truncs trunc i → (other.stamp ≡ trunc.stamp → (other.size ≡ trunc.size → ⊥) → ⊥) → NoneOther truncs trunc (i + 1)
other_more truncs trunc i other at none this has =
    let next : i + 1 ≡ suc i = omega arith in
    elim (one_more_trunc truncs i other has.0 at (subst (λ (n : ℕ). IsTruncOf (take n truncs) has.0) next has.1)) [
      | inl before ↦ none (has.0, before, has.2, has.3)
      | inr same ↦ this (ap (λ (t : Trunc). t.stamp) same ∙ has.2) (λ size. has.3 (ap (λ (t : Trunc). t.size) (sym same) ∙ size))
    ]

-- whether the one at hand is
pub other_found : (truncs : List Trunc) (trunc : Trunc) (i : ℕ) (other : Trunc) (is : Bool) → slice_get truncs i ≡ Some other → is ≡ true → IsTrue is ↔ IsOtherSize other trunc → HasOtherSize truncs trunc
other_found truncs trunc i other is at e tells = (let apart = tells.0 e in other_here truncs trunc i other at apart.0 apart.1)

pub other_not : (truncs : List Trunc) (trunc : Trunc) (i : ℕ) (other : Trunc) (is : Bool) → slice_get truncs i ≡ Some other → is ≡ false → IsTrue is ↔ IsOtherSize other trunc → NoneOther truncs trunc i → NoneOther truncs trunc (i + 1)
other_not truncs trunc i other is at e tells none = other_more truncs trunc i other at none (λ same apart. denied is e (tells.1 (same, apart)))

pub other_all : (truncs : List Trunc) (trunc : Trunc) (i : ℕ) → length truncs ≤ i → NoneOther truncs trunc i → HasOtherSize truncs trunc → ⊥
other_all truncs trunc i past none has = none (subst (λ (l : List Trunc). HasOtherSize l trunc) (sym (take_all i truncs past)) has)

-- ---- the truncates so far

in_front : (old : List Trunc) (added trunc : Trunc) → IsTruncOf old trunc → IsTruncOf (old ++ added ∷ []) trunc
in_front [] added trunc one = absurd one
in_front (x ∷ xs) added trunc (inl same) = inl same
in_front (x ∷ xs) added trunc (inr later) = inr (in_front xs added trunc later)

at_end : (old : List Trunc) (added : Trunc) → IsTruncOf (old ++ added ∷ []) added
at_end [] added = inl refl
at_end (x ∷ xs) added = inr (at_end xs added)

old_or_added : (old : List Trunc) (added trunc : Trunc) → IsTruncOf (old ++ added ∷ []) trunc → IsTruncOf old trunc ⊎ (added ≡ trunc)
old_or_added [] added trunc (inl same) = inr same
old_or_added [] added trunc (inr none) = absurd none
old_or_added (x ∷ xs) added trunc (inl same) = inl (inl same)
old_or_added (x ∷ xs) added trunc (inr later) = elim (old_or_added xs added trunc later) [
  | inl before ↦ inl (inr before)
  | inr same ↦ inr same
]

pub truncs_none : (paths : List Path) → AreTruncsAt (take 0 paths) []
truncs_none paths = record { all = λ path trunc one is. absurd one; are = λ trunc one. absurd one; differ = λ a b one two same. absurd one }

one_trunc : (path : Path) (a b : Trunc) → IsTruncAt path a → IsTruncAt path b → a ≡ b
one_trunc path a b p q =
    let same : Some a ≡ Some b = ap trunc_in_item (one_item path (item.Trunc a.stamp a.size) (item.Trunc b.stamp b.size) p q) in
    cc

module _ (paths : List Path) (i : ℕ) (path : Path) (at : slice_get paths i ≡ Some path) (old new : List Trunc) (are : AreTruncsAt (take i paths) old) where
  next : i + 1 ≡ suc i
  next = omega arith

  was_one : (other : Path) → IsOneOf (take (i + 1) paths) other → IsOneOf (take i paths) other ⊎ (path ≡ other)
  was_one other one = one_more paths i path other at (subst (λ (n : ℕ). IsOneOf (take n paths) other) next one)

  module _ (trunc : Trunc) (is : IsTruncAt path trunc) (alone : HasOtherSize old trunc → ⊥) where
    same_size : (other : Trunc) → IsTruncOf old other → other.stamp ≡ trunc.stamp → other.size ≡ trunc.size
    same_size other one same = elim (cases_eq other.size trunc.size) [
      | inl e ↦ e
      | inr apart ↦ absurd (alone (other, one, same, apart))
    ]

    differ_of : (a b : Trunc) → IsTruncOf old a ⊎ (trunc ≡ a) → IsTruncOf old b ⊎ (trunc ≡ b) → a.stamp ≡ b.stamp → a.size ≡ b.size
    differ_of a b (inl p) (inl q) same = are.differ a b p q same
    differ_of a b (inl p) (inr q) same = same_size a p (same ∙ ap (λ (t : Trunc). t.stamp) (sym q)) ∙ ap (λ (t : Trunc). t.size) q
    differ_of a b (inr p) (inl q) same = ap (λ (t : Trunc). t.size) (sym p) ∙ sym (same_size b q (sym same ∙ ap (λ (t : Trunc). t.stamp) (sym p)))
    differ_of a b (inr p) (inr q) same = ap (λ (t : Trunc). t.size) (sym p ∙ q)

    truncs_with : AreTruncsAt (take (i + 1) paths) (old ++ trunc ∷ [])
    truncs_with = record {
      all = λ other t one is_t. elim (was_one other one) [
        | inl before ↦ in_front old trunc t (are.all other t before is_t)
        | inr same ↦ subst (IsTruncOf (old ++ trunc ∷ [])) (one_trunc other trunc t (subst (λ (p : Path). IsTruncAt p trunc) same is) is_t) (at_end old trunc)
      ];
      are = λ t one. elim (old_or_added old trunc t one) [
        | inl before ↦ (let was = are.are t before in (was.0, still_one paths i path was.0 at was.1, was.2))
        | inr same ↦ (path, here, subst (IsTruncAt path) same is)
      ];
      differ = λ a b one two. differ_of a b (old_or_added old trunc a one) (old_or_added old trunc b two);
    }
      where
        here : IsOneOf (take (i + 1) paths) path
        here = of paths i path at
          where
            of : (paths : List Path) (i : ℕ) (path : Path) → slice_get paths i ≡ Some path → IsOneOf (take (i + 1) paths) path
            of [] i path at = absurd (cc)
            of (x ∷ xs) zero path at = let same : x ≡ path = cc in inl same
            of (x ∷ xs) (suc i) path at = let n : suc i + 1 ≡ suc (i + 1) = omega arith in subst (λ (n : ℕ). IsOneOf (take n (x ∷ xs)) path) (sym n) (inr (of xs i path at))

  pub truncs_more : AddsTruncAt path old new → AreTruncsAt (take (i + 1) paths) new
  truncs_more (inl (trunc, is, e, alone)) = subst (AreTruncsAt (take (i + 1) paths)) (sym e) (truncs_with trunc is alone)
  truncs_more (inr (none, e)) = subst (AreTruncsAt (take (i + 1) paths)) (sym e) (record {
    all = λ other t one is_t. elim (was_one other one) [
      | inl before ↦ are.all other t before is_t
      | inr same ↦ absurd (none t (subst (λ (p : Path). IsTruncAt p t) (sym same) is_t))
    ];
    are = λ t one. (let was = are.are t one in (was.0, still_one paths i path was.0 at was.1, was.2));
    differ = are.differ;
  })

pub truncs_all : (paths : List Path) (i : ℕ) (truncs : List Trunc) → length paths ≤ i → AreTruncsAt (take i paths) truncs → AreTruncsAt paths truncs
truncs_all paths i truncs past are = subst (λ (l : List Path). AreTruncsAt l truncs) (take_all i paths past) are

pub two_truncs_at : (room : Name) (paths : List Path) (i : ℕ) (path : Path) (old : List Trunc) (finding : Finding) → slice_get paths i ≡ Some path → AreTruncsAt (take i paths) old → IsTwiceAt room path old finding → IsTwoTruncs room paths finding
two_truncs_at room paths i path old finding at are (inl none) = inl none
two_truncs_at room paths i path old finding at are (inr (trunc, is, inl none)) = inl none
two_truncs_at room paths i path old finding at are (inr (trunc, is, inr (e, (other, one, same, apart)))) =
    let was = are.are other one in
    inr (other, trunc, was.0, path, front_one paths i was.0 was.1, was.2, path_there paths i path at, is, e, same, apart)

-- ---- in the room

trunc_file : (room : Room) (tree : Tree) (paths : List Path) (path : Path) (trunc : Trunc) → HasShape paths tree room → IsOneOf paths path → IsTruncAt path trunc → (content : List ℕ) × HasItem room (item.Trunc trunc.stamp trunc.size) content
trunc_file room tree paths path trunc shape one is = (let file = shape.are path one in (file.0, record { is_item = is.is_item; there = ap (file_at room) (sym is.printed) ∙ file.1 }))

trunc_path : (room : Room) (tree : Tree) (paths : List Path) (stamp size : ℕ) (content : List ℕ) → HasShape paths tree room → HasItem room (item.Trunc stamp size) content → IsOneOf paths (path_of (item.Trunc stamp size))
trunc_path room tree paths stamp size content shape has = shape.all (path_of (item.Trunc stamp size)) content (λ top. absurd (cc)) has.there

pub truncs_in_room : (room : Room) (tree : Tree) (paths : List Path) (truncs : List Trunc) → HasShape paths tree room → AreTruncsAt paths truncs → AreTruncsOf truncs room
truncs_in_room room tree paths truncs shape are = record {
  all = λ stamp size content has. are.all (path_of (item.Trunc stamp size)) (record { stamp = stamp; size = size }) (trunc_path room tree paths stamp size content shape has) (record { is_item = has.is_item; printed = refl });
  are = λ trunc one. (let was = are.are trunc one in trunc_file room tree paths was.0 trunc shape was.1 was.2);
}

pub truncs_differ : (room : Room) (tree : Tree) (paths : List Path) (truncs : List Trunc) → HasShape paths tree room → AreTruncsAt paths truncs → TruncatesDiffer room
truncs_differ room tree paths truncs shape are stamp size other a b has has_other =
    let of = truncs_in_room room tree paths truncs shape are in
    are.differ (record { stamp = stamp; size = size }) (record { stamp = stamp; size = other }) (of.all stamp size a has) (of.all stamp other b has_other) refl

truncs_right : (place : Place) (paths : List Path) (tree : Tree) (at : IsPlaced place tree) (finding : Finding) → HasShape paths tree at.room → IsTwoTruncs place.name paths finding → IsRight tree finding
truncs_right place paths tree at finding shape (inl none) = subst (IsRight tree) (sym none) tt
truncs_right place paths tree at finding shape (inr (a, b, p, q, one, is_a, two, is_b, is, same, apart)) =
    let x = trunc_file at.room tree paths p a shape one is_a in
    let y = trunc_file at.room tree paths q b shape two is_b in
    subst (IsRight tree) (sym is) (place.number, at.room, at.there, at.named, (a.size, b.size, x.0, y.0, subst (λ (s : ℕ). HasItem at.room (item.Trunc s a.size) x.0) same x.1, y.1, apart))

no_fault : (room : Name) (paths : List Path) (finding : Finding) → IsTwoTruncs room paths finding → finding ≡ Fault → ⊥
no_fault room paths finding (inl none) e = cc
no_fault room paths finding (inr (a, b, p, q, one, is_a, two, is_b, is, same, apart)) e = cc

pub truncs_fail : {A : Type 0} (place : Place) (paths : List Path) (old new : Stored) (result : Result A Finding) → OfPlace (HasShape paths) place old → IfErr result (IsTwoTruncs place.name paths) → IfErr result (Fails (IsPlaced place) old new)
truncs_fail place paths old new (Ok value) shape wrong = tt
truncs_fail place paths old new (Err finding) shape wrong = record {
  cause = λ e. absurd (no_fault place.name paths finding wrong e);
  right = λ tree seen at. truncs_right place paths tree at finding (shape tree seen at) wrong;
}

pub two_truncs_all : (room : Name) (paths : List Path) (i : ℕ) (path : Path) (old : List Trunc) (result : Result (List Trunc) Finding) → slice_get paths i ≡ Some path → AreTruncsAt (take i paths) old → IfErr result (IsTwiceAt room path old) → IfErr result (IsTwoTruncs room paths)
two_truncs_all room paths i path old (Ok truncs) at are wrong = tt
two_truncs_all room paths i path old (Err finding) at are wrong = two_truncs_at room paths i path old finding at are wrong

pub trunc_none : (path : Path) (result : Option Item) → result ≡ None → ((it : Item) → IsAt path it → result ≡ Some it) → (trunc : Trunc) → IsTruncAt path trunc → None ≡ Some trunc
trunc_none path result none only trunc is = (let clash : None ≡ Some (item.Trunc trunc.stamp trunc.size) = sym none ∙ only (item.Trunc trunc.stamp trunc.size) is in absurd (cc))
