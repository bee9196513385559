-- Items at their places.
use Rattle.std.proofs.Common.{◌≡◌, ◌≢◌, ℕ, zero, suc, ◌+◌, List, [], ◌∷◌, ◌++◌, length, Some, refl, sym, ap, ◌∙◌, subst, map, arith}
use Rattle.std.specs.Prelude.{set, slice_get, All}
use Rattle.std.proofs.lemmas.List.Elements.{All-nil, All-cons}
use mathlib.Core.Logic.{dite}
use native.Mathlib.Decide.{ℕ_discrete}

pub same_some : {X : Type 0} (a b : X) → Some a ≡ Some b → a ≡ b
same_some a b e = cc

pub set_here : {X : Type 0} (xs : List X) (i : ℕ) (v p : X) → slice_get (set xs i v) i ≡ Some p → p ≡ v
set_here [] i v p is = absurd (cc)
set_here (x ∷ xs) zero v p is = sym (same_some v p is)
set_here (x ∷ xs) (suc i) v p is = set_here xs i v p is

pub set_there : {X : Type 0} (xs : List X) (i j : ℕ) (v : X) → j ≢ i → slice_get (set xs i v) j ≡ slice_get xs j
set_there [] i j v other = refl
set_there (x ∷ xs) zero zero v other = absurd (other refl)
set_there (x ∷ xs) zero (suc j) v other = refl
set_there (x ∷ xs) (suc i) zero v other = refl
set_there (x ∷ xs) (suc i) (suc j) v other = set_there xs i j v (λ is. other (ap suc is))

pub map_here : {X Y : Type 0} (f : X → Y) (xs : List X) (i : ℕ) (x : X) → slice_get xs i ≡ Some x → slice_get (map f xs) i ≡ Some (f x)
map_here f [] i x is = absurd (cc)
map_here f (y ∷ xs) zero x is = ap (λ z. Some (f z)) (same_some y x is)
map_here f (y ∷ xs) (suc i) x is = map_here f xs i x is

-- what is so of the one that was set, and of each other one, is so of all
pub at_all : {X : Type 0} (P : ℕ → X → Type 0) (xs ys : List X) (i : ℕ) (v : X) → ys ≡ set xs i v → P i v → ((j : ℕ) (p : X) → j ≢ i → slice_get xs j ≡ Some p → P j p) → (j : ℕ) (p : X) → slice_get ys j ≡ Some p → P j p
at_all {X} P xs ys i v is here there j p stands =
    let found : slice_get (set xs i v) j ≡ Some p = ap (λ (z : List X). slice_get z j) (sym is) ∙ stands in
    dite (ℕ_discrete j i)
    (λ same.
    let at : slice_get (set xs i v) i ≡ Some p = ap (λ k. slice_get (set xs i v) k) (sym same) ∙ found in
    let Q : ℕ × X → Type 0 = λ z. P z.0 z.1 in
    subst Q (λ t. (sym same t, sym (set_here xs i v p at) t)) here)
    (λ other. there j p other (sym (set_there xs i j v other) ∙ found))

-- two views of a list that are alike at each place
pub map_alike : {X Z : Type 0} (f g : X → Z) (xs : List X) → ((j : ℕ) (x : X) → slice_get xs j ≡ Some x → f x ≡ g x) → map f xs ≡ map g xs
map_alike f g [] each = refl
map_alike f g (x ∷ xs) each =
    let first : f x ≡ g x = each 0 x refl in
    λ i. first i ∷ map_alike f g xs (λ j y here. each (suc j) y here) i

abbrev IsNext : ℕ → Type 0
IsNext zero = ⊥
IsNext (suc n) = Unit {0}

not_next : (i : ℕ) → suc i ≢ zero
not_next i is = subst IsNext is tt

-- the same where one place is set
pub set_alike : {X Z : Type 0} (f g : X → Z) (xs : List X) (i : ℕ) (z : Z) → ((j : ℕ) (x : X) → j ≢ i → slice_get xs j ≡ Some x → f x ≡ g x) → set (map f xs) i z ≡ set (map g xs) i z
set_alike f g [] i z each = refl
set_alike f g (x ∷ xs) zero z each = ap (λ ys. z ∷ ys) (map_alike f g xs (λ j y here. each (suc j) y (not_next j) here))
set_alike f g (x ∷ xs) (suc i) z each =
    let first : f x ≡ g x = each 0 x (λ is. not_next i (sym is)) refl in
    λ k. first k ∷ set_alike f g xs i z (λ j y other here. each (suc j) y (λ is. other (omega (arith, is))) here) k

pub mapped_twice : {X Y Z : Type 0} (f : X → Y) (g : Y → Z) (xs : List X) → map g (map f xs) ≡ map (λ x. g (f x)) xs
mapped_twice f g [] = refl
mapped_twice f g (x ∷ xs) = ap (λ z. g (f x) ∷ z) (mapped_twice f g xs)

-- what is so at each place is so of all
pub all_of_map : {X Y : Type 0} (P : Y → Type 0) (f : X → Y) (xs : List X) → ((i : ℕ) (x : X) → slice_get xs i ≡ Some x → P (f x)) → All P (map f xs)
all_of_map P f [] each = All-nil P
all_of_map P f (x ∷ xs) each = All-cons P (f x) (map f xs) (each 0 x refl) (all_of_map P f xs (λ i y here. each (suc i) y here))

pub map_both : {X Y : Type 0} (f : X → Y) (xs : List X) (x : X) → map f (xs ++ x ∷ []) ≡ map f xs ++ f x ∷ []
map_both f [] x = refl
map_both f (y ∷ xs) x = ap (λ z. f y ∷ z) (map_both f xs x)

pub length_both : {X : Type 0} (xs : List X) (x : X) → length (xs ++ x ∷ []) ≡ length xs + 1
length_both [] x = omega arith
length_both (y ∷ xs) x = let e = length_both xs x in omega (arith, e)

pub at_end : {X : Type 0} (P : ℕ → X → Type 0) (k : ℕ) (xs : List X) (x : X) → ((i : ℕ) (y : X) → slice_get xs i ≡ Some y → P (k + i) y) → P (k + length xs) x → (i : ℕ) (y : X) → slice_get (xs ++ x ∷ []) i ≡ Some y → P (k + i) y
at_end {X} P k [] x each last zero y here = subst (λ (z : X). P (k + 0) z) (same_some x y here) last
at_end P k [] x each last (suc i) y here = absurd (cc)
at_end P k (z ∷ xs) x each last zero y here = each 0 y here
at_end {X} P k (z ∷ xs) x each last (suc i) y here =
    let number : (j : ℕ) → k + suc j ≡ (k + 1) + j = λ j. omega arith in
    subst (λ n. P n y) (sym (number i)) (at_end P (k + 1) xs x (λ j w there. subst (λ n. P n w) (number j) (each (suc j) w there)) (subst (λ n. P n x) (number (length xs)) last) i y here)
