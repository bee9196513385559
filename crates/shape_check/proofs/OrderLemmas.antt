-- Paths in order: those of one folder behind those of the folders before it.
use Rattle.std.proofs.Common.{◌≡◌, ℕ, zero, suc, ◌+◌, inl, inr, Bool, true, false, ◌||◌, List, [], ◌∷◌, ◌++◌, take, map, Some, refl, ap, ◌∙◌, subst, arith}
use Rattle.std.specs.Prelude.{slice_get}
use Rattle.std.specs.Ordering.{nat_cmp, ordering_reverse, ordering_then}
use Rattle.std.specs.declared.cmp.Ordering.{Ordering}
use Rattle.std.specs.declared.cmp.Ordering.TheVariants.{Less, Equal, Greater}
use Rattle.std.specs.Cmp.Lexicographic.{slice_cmp, nat_list_cmp_total}
use Rattle.std.specs.List.{AllByRecursion}
use Rattle.std.specs.List.Sorted.{IsStrictlySortedBy}
use Rattle.plfs_types.specs.declared.names.Path.{Path}
use Rattle.store_api.specs.Names.{same_name}
use Rattle.store_laws.specs.Differ.{is_listed}
use Rattle.store_laws.specs.There.{AreInOrder}
use Rattle.store_laws.proofs.Facts.{name_eq, name_refl}
use Rattle.mount_model.specs.Paths.{Name}
use Rattle.shape_check.specs.Shape.{in_folder, path_cmp, ArePathsInOrder, IsOneOf}

-- ---- lists that are sorted

-- all of two lists, one behind the other
sorted_both : {A : Type 0} (R : A → A → Ordering) (a b : List A) → IsStrictlySortedBy R a → IsStrictlySortedBy R b → AllByRecursion (λ x. AllByRecursion (λ y. R x y ≡ Less) b) a → IsStrictlySortedBy R (a ++ b)
unfolding IsStrictlySortedBy
sorted_both R [] b first then less = then
sorted_both R (x ∷ a) b first then less = (both a first.0, sorted_both R a b first.1 then less.1)
  where
    both : (l : List _) → AllByRecursion (λ y. R x y ≡ Less) l → AllByRecursion (λ y. R x y ≡ Less) (l ++ b)
    both [] all = less.0
    both (y ∷ l) all = (all.0, both l all.1)

all_of : (Q : Path → Type 0) (paths : List Path) → ((path : Path) → IsOneOf paths path → Q path) → AllByRecursion Q paths
all_of Q [] each = tt
all_of Q (p ∷ ps) each = (each p (inl refl), all_of Q ps (λ path one. each path (inr one)))

same_cmp : (name : Name) → slice_cmp nat_cmp name name ≡ Equal
same_cmp name = of (slice_cmp nat_cmp name name) (nat_list_cmp_total.antisymm name name)
  where
    of : (o : Ordering) → o ≡ ordering_reverse o → o ≡ Equal
    of Less e = absurd (cc)
    of Equal e = refl
    of Greater e = absurd (cc)

-- ---- the paths of one folder

pub none_sorted : ArePathsInOrder []
unfolding IsStrictlySortedBy
none_sorted = tt

pub folder_sorted : (folder : Name) (names : List Name) → AreInOrder names → ArePathsInOrder (map (in_folder folder) names)
unfolding IsStrictlySortedBy
folder_sorted folder [] sorted = tt
folder_sorted folder (x ∷ xs) sorted = (behind xs sorted.0, folder_sorted folder xs sorted.1)
  where
    behind : (names : List Name) → AllByRecursion (λ y. slice_cmp nat_cmp x y ≡ Less) names → AllByRecursion (λ p. path_cmp (in_folder folder x) p ≡ Less) (map (in_folder folder) names)
    behind [] all = tt
    behind (y ∷ ys) all = (ap (λ (o : Ordering). ordering_then o (slice_cmp nat_cmp x y)) (same_cmp folder) ∙ all.0, behind ys all.1)

-- ---- one folder more

listed_front : (names : List Name) (i : ℕ) (name : Name) → is_listed name (take i names) ≡ true → is_listed name (take (suc i) names) ≡ true
listed_front [] zero name e = absurd (cc)
listed_front [] (suc i) name e = absurd (cc)
listed_front (x ∷ xs) zero name e = absurd (cc)
listed_front (x ∷ xs) (suc i) name e = of (same_name x name) e (λ rest. listed_front xs i name rest)
  where
    of : (b : Bool) → (b || is_listed name (take i xs)) ≡ true → (is_listed name (take i xs) ≡ true → is_listed name (take (suc i) xs) ≡ true) → (b || is_listed name (take (suc i) xs)) ≡ true
    of true e more = refl
    of false e more = more e

listed_last : (names : List Name) (i : ℕ) (name : Name) → slice_get names i ≡ Some name → is_listed name (take (suc i) names) ≡ true
listed_last [] i name at = absurd (cc)
listed_last (x ∷ xs) zero name at = (let same : x ≡ name = cc in ap (λ (b : Bool). b || false) (ap (λ (n : Name). same_name n name) same ∙ name_refl name))
listed_last (x ∷ xs) (suc i) name at = of (same_name x name) (listed_last xs i name at)
  where
    of : (b : Bool) → is_listed name (take (suc i) xs) ≡ true → (b || is_listed name (take (suc i) xs)) ≡ true
    of true e = refl
    of false e = e

-- a folder of a path
pub folder_front : (names : List Name) (i : ℕ) (name : Name) → is_listed name (take i names) ≡ true → is_listed name (take (i + 1) names) ≡ true
folder_front names i name e = (let next : i + 1 ≡ suc i = omega arith in ap (λ (n : ℕ). is_listed name (take n names)) next ∙ listed_front names i name e)

pub folder_last : (names : List Name) (i : ℕ) (top name : Name) → slice_get names i ≡ Some top → name ≡ top → is_listed name (take (i + 1) names) ≡ true
folder_last names i top name at is = (let next : i + 1 ≡ suc i = omega arith in ap (λ (n : ℕ). is_listed name (take n names)) next ∙ ap (λ (n : Name). is_listed n (take (suc i) names)) is ∙ listed_last names i top at)

-- the names before the last one are in order, and below it
abbrev IsFront : List Name → ℕ → Name → Type 0
IsFront names i top = AreInOrder (take i names) × ((name : Name) → is_listed name (take i names) ≡ true → slice_cmp nat_cmp name top ≡ Less)

front_of : (names : List Name) (i : ℕ) (top : Name) → slice_get names i ≡ Some top → AreInOrder (take (suc i) names) → IsFront names i top
unfolding IsStrictlySortedBy
front_of [] i top at sorted = absurd (cc)
front_of (x ∷ xs) zero top at sorted = (tt, λ name e. absurd (cc))
front_of (x ∷ xs) (suc i) top at sorted =
    let rest = front_of xs i top at sorted.1 in
    ((fewer xs i sorted.0, rest.0), λ name e. below name (same_name x name) refl e rest.1)
  where
    fewer : (names : List Name) (k : ℕ) → AllByRecursion (λ y. slice_cmp nat_cmp x y ≡ Less) (take (suc k) names) → AllByRecursion (λ y. slice_cmp nat_cmp x y ≡ Less) (take k names)
    fewer [] zero all = tt
    fewer [] (suc k) all = tt
    fewer (y ∷ ys) zero all = tt
    fewer (y ∷ ys) (suc k) all = (all.0, fewer ys k all.1)

    last : (names : List Name) (k : ℕ) → slice_get names k ≡ Some top → AllByRecursion (λ y. slice_cmp nat_cmp x y ≡ Less) (take (suc k) names) → slice_cmp nat_cmp x top ≡ Less
    last [] k at all = absurd (cc)
    last (y ∷ ys) zero at all = (let same : y ≡ top = cc in subst (λ (n : Name). slice_cmp nat_cmp x n ≡ Less) same all.0)
    last (y ∷ ys) (suc k) at all = last ys k at all.1

    below : (name : Name) (b : Bool) → same_name x name ≡ b → (b || is_listed name (take i xs)) ≡ true → ((n : Name) → is_listed n (take i xs) ≡ true → slice_cmp nat_cmp n top ≡ Less) → slice_cmp nat_cmp name top ≡ Less
    below name true same e rest = subst (λ (n : Name). slice_cmp nat_cmp n top ≡ Less) (name_eq x name same) (last xs i at sorted.0)
    below name false other e rest = rest name e

-- paths of earlier folders, and behind them those of one more
pub paths_sorted : (names : List Name) (i : ℕ) (top : Name) (before more : List Path) → slice_get names i ≡ Some top → ((path : Path) → IsOneOf before path → is_listed path.folder (take i names) ≡ true) → ((path : Path) → IsOneOf more path → path.folder ≡ top)
    → (AreInOrder (take i names) → ArePathsInOrder before) → ArePathsInOrder more → AreInOrder (take (i + 1) names) → ArePathsInOrder (before ++ more)
paths_sorted names i top before more at inside here sorted then all =
    let next : i + 1 ≡ suc i = omega arith in
    let front = front_of names i top at (subst (λ (n : ℕ). AreInOrder (take n names)) next all) in
    sorted_both path_cmp before more (sorted front.0) then
    (all_of (λ x. AllByRecursion (λ y. path_cmp x y ≡ Less) more) before (λ x one. all_of (λ y. path_cmp x y ≡ Less) more (λ y other. less x y (front.1 x.folder (inside x one)) (here y other))))
  where
    less : (x y : Path) → slice_cmp nat_cmp x.folder top ≡ Less → y.folder ≡ top → path_cmp x y ≡ Less
    less x y e is = ap (λ (f : Name). ordering_then (slice_cmp nat_cmp x.folder f) (slice_cmp nat_cmp x.file y.file)) is ∙ ap (λ (o : Ordering). ordering_then o (slice_cmp nat_cmp x.file y.file)) e
