-- Names in byte order: the same names, each once.
use Rattle.std.proofs.Common.{◌≡◌, Bool, true, false, ◌||◌, List, [], ◌∷◌, refl, ap, sym, ◌∙◌, subst}
use Rattle.std.specs.Prelude.{fold}
use Rattle.std.specs.Ordering.{nat_cmp, match_ordering, ordering_reverse}
use Rattle.std.specs.declared.cmp.Ordering.{Ordering}
use Rattle.std.specs.declared.cmp.Ordering.TheVariants.{Less, Equal, Greater}
use Rattle.std.specs.Cmp.Lexicographic.{slice_cmp, nat_list_cmp_total}
use Rattle.std.specs.List.{AllByRecursion}
use Rattle.std.specs.List.Sorted.{IsStrictlySortedBy}
use Rattle.std.specs.FinMap.{slice_cmp-IsAntisymmetric, nat_cmp-IsAntisymmetric}
use Rattle.std.specs.BTreeSet.{insert_key}
use Rattle.store_api.specs.Step.{Name}
use Rattle.store_api.specs.Names.{same_name, in_byte_order}
use Rattle.store_laws.specs.Differ.{is_listed}
use Rattle.store_laws.specs.There.{AreInOrder}

abbrev by_bytes : Name → Name → Ordering
by_bytes a b = slice_cmp nat_cmp a b

abbrev put : List Name → Name → List Name
put names name = insert_key (slice_cmp nat_cmp) names name

twice : (a r : Bool) → (a || r) ≡ (a || (a || r))
twice true r = refl
twice false r = refl

exchanged : (a b r : Bool) → (b || (a || r)) ≡ (a || (b || r))
exchanged true true r = refl
exchanged true false r = refl
exchanged false true r = refl
exchanged false false r = refl

-- a name is put among others
listed_put : (name : Name) (names : List Name) (new : Name) → is_listed name (put names new) ≡ (same_name new name || is_listed name names)
listed_put name [] new = refl
listed_put name (x ∷ xs) new = elim (by_bytes new x) as (λ r. by_bytes new x ≡ r → is_listed name (match_ordering r (new ∷ x ∷ xs) (x ∷ xs) (x ∷ put xs new)) ≡ (same_name new name || (same_name x name || is_listed name xs))) [
  | Less ↦ λ e. refl
  | Equal ↦ λ e.
      let is : new ≡ x = slice_cmp-IsAntisymmetric nat_cmp-IsAntisymmetric new x e in
      subst (λ z. (same_name x name || is_listed name xs) ≡ (same_name z name || (same_name x name || is_listed name xs))) (sym is) (twice (same_name x name) (is_listed name xs))
  | Greater ↦ λ e. ap (λ r. same_name x name || r) (listed_put name xs new) ∙ exchanged (same_name new name) (same_name x name) (is_listed name xs)
] refl

shifted : (a b c : Bool) → ((a || b) || c) ≡ (b || (a || c))
shifted true true c = refl
shifted true false c = refl
shifted false true c = refl
shifted false false c = refl

listed_fold : (name : Name) (names sorted : List Name) → is_listed name (fold put sorted names) ≡ (is_listed name sorted || is_listed name names)
listed_fold name [] sorted = last (is_listed name sorted)
  where
    last : (b : Bool) → b ≡ (b || false)
    last true = refl
    last false = refl
listed_fold name (x ∷ xs) sorted =
    listed_fold name xs (put sorted x)
    ∙ ap (λ b. b || is_listed name xs) (listed_put name sorted x)
    ∙ shifted (same_name x name) (is_listed name sorted) (is_listed name xs)

-- the names in byte order are those that were there
pub listed_in_order : (name : Name) (names : List Name) → is_listed name (in_byte_order names) ≡ is_listed name names
listed_in_order name names = listed_fold name names []

all_put : (P : Name → Type 0) (names : List Name) (new : Name) → AllByRecursion P names → P new → AllByRecursion P (put names new)
all_put P [] new a p = (p, tt)
all_put P (x ∷ xs) new a p = elim (by_bytes new x) as (λ r. AllByRecursion P (match_ordering r (new ∷ x ∷ xs) (x ∷ xs) (x ∷ put xs new))) [
  | Less ↦ (p, a)
  | Equal ↦ a
  | Greater ↦ (a.0, all_put P xs new a.1 p)
]

below_all : (a b : Name) (names : List Name) → by_bytes a b ≡ Less → AllByRecursion (λ y. slice_cmp nat_cmp b y ≡ Less) names → AllByRecursion (λ y. slice_cmp nat_cmp a y ≡ Less) names
below_all a b [] e all = tt
below_all a b (x ∷ xs) e all = (nat_list_cmp_total.trans a b x e all.0, below_all a b xs e all.1)

ordered_put : (names : List Name) (new : Name) → AreInOrder names → AreInOrder (put names new)
unfolding IsStrictlySortedBy
ordered_put [] new o = (tt, tt)
ordered_put (x ∷ xs) new o = elim (by_bytes new x) as (λ r. by_bytes new x ≡ r → AreInOrder (match_ordering r (new ∷ x ∷ xs) (x ∷ xs) (x ∷ put xs new))) [
  | Less ↦ λ e. ((e, below_all new x xs e o.0), o)
  | Equal ↦ λ e. o
  | Greater ↦ λ e.
      let before : slice_cmp nat_cmp x new ≡ Less = nat_list_cmp_total.antisymm x new ∙ ap ordering_reverse e in
      (all_put (λ y. slice_cmp nat_cmp x y ≡ Less) xs new o.0 before, ordered_put xs new o.1)
] refl

ordered_fold : (names sorted : List Name) → AreInOrder sorted → AreInOrder (fold put sorted names)
ordered_fold [] sorted o = o
ordered_fold (x ∷ xs) sorted o = ordered_fold xs (put sorted x) (ordered_put sorted x o)

-- and rise strictly
pub in_order : (names : List Name) → AreInOrder (in_byte_order names)
unfolding IsStrictlySortedBy
in_order names = ordered_fold names [] tt
