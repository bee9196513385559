-- What stands at each place of a list once one place was written.
use Rattle.std.proofs.Common.{◌≡◌, ℕ, zero, suc, ◌<◌, List, [], ◌∷◌, ◌++◌, length, slice_get, slice_set, Some, refl, ap, sym, arith}

-- the place that was written
pub slice_get-slice_set : {X : Type 0} (xs : List X) (i : ℕ) (x y : X) → slice_get xs i ≡ Some x → slice_get (slice_set xs i y) i ≡ Some y
slice_get-slice_set [] i x y e = absurd (cc)
slice_get-slice_set (z ∷ xs) zero x y e = refl
slice_get-slice_set (z ∷ xs) (suc i) x y e = slice_get-slice_set xs i x y e

-- every other place
pub slice_get_other-slice_set : {X : Type 0} (xs : List X) (i j : ℕ) (y : X) → (j ≡ i → ⊥) → slice_get (slice_set xs i y) j ≡ slice_get xs j
slice_get_other-slice_set [] i j y e = refl
slice_get_other-slice_set (z ∷ xs) zero zero y e = absurd (e refl)
slice_get_other-slice_set (z ∷ xs) (suc i) zero y e = refl
slice_get_other-slice_set (z ∷ xs) zero (suc j) y e = refl
slice_get_other-slice_set (z ∷ xs) (suc i) (suc j) y e = slice_get_other-slice_set xs i j y (λ s. e (ap suc s))

-- what stands there already changes nothing
pub slice_set_same : {X : Type 0} (xs : List X) (i : ℕ) (x : X) → slice_get xs i ≡ Some x → slice_set xs i x ≡ xs
slice_set_same [] i x e = refl
slice_set_same (z ∷ xs) zero x e = let same : z ≡ x = cc in ap (λ w. w ∷ xs) (sym same)
slice_set_same (z ∷ xs) (suc i) x e = ap (λ w. z ∷ w) (slice_set_same xs i x e)

-- a list with one more item: the places before
pub slice_get_before : {X : Type 0} (xs : List X) (i : ℕ) (x y : X) → slice_get xs i ≡ Some x → slice_get (xs ++ y ∷ []) i ≡ Some x
slice_get_before [] i x y e = absurd (cc)
slice_get_before (z ∷ xs) zero x y e = e
slice_get_before (z ∷ xs) (suc i) x y e = slice_get_before xs i x y e

-- the last place
pub slice_get_last : {X : Type 0} (xs : List X) (y : X) → slice_get (xs ++ y ∷ []) (length xs) ≡ Some y
slice_get_last [] y = refl
slice_get_last (z ∷ xs) y = slice_get_last xs y

-- each place is the last or one before
pub slice_get_more : {X : Type 0} (xs : List X) (i : ℕ) (x y : X) → slice_get (xs ++ y ∷ []) i ≡ Some x → (i ≡ length xs → x ≡ y) × ((i ≡ length xs → ⊥) → slice_get xs i ≡ Some x)
slice_get_more [] zero x y e = (λ at. let same : y ≡ x = cc in sym same, λ other. absurd (other refl))
slice_get_more [] (suc i) x y e = absurd (cc)
slice_get_more (z ∷ xs) zero x y e = (λ at. absurd (omega arith), λ other. e)
slice_get_more (z ∷ xs) (suc i) x y e =
    let rest = slice_get_more xs i x y e in
    (λ at. rest.0 (omega arith), λ other. rest.1 (λ at. other (ap suc at)))

-- each place within a list has an item
pub item : {X : Type 0} (xs : List X) (i : ℕ) → i < length xs → (x : X) × (slice_get xs i ≡ Some x)
item [] i l = absurd (omega arith)
item (x ∷ xs) zero l = (x, refl)
item (x ∷ xs) (suc i) l = item xs i (omega arith)
