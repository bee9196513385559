-- Lists of which one item was written.
use Rattle.std.proofs.Common.{◌≡◌, ℕ, zero, suc, List, [], ◌∷◌, length, map, slice_get, slice_set, Some, None, refl, ap, ◌∙◌, arith}

pub map_slice_set : {A B : Type 0} (f : A → B) (xs : List A) (i : ℕ) (y : A) → map f (slice_set xs i y) ≡ slice_set (map f xs) i (f y)
map_slice_set f [] i y = refl
map_slice_set f (x ∷ xs) zero y = refl
map_slice_set f (x ∷ xs) (suc i) y = ap (λ l. f x ∷ l) (map_slice_set f xs i y)

pub get_map : {A B : Type 0} (f : A → B) (xs : List A) (i : ℕ) (x : A) → slice_get xs i ≡ Some x → slice_get (map f xs) i ≡ Some (f x)
get_map f [] i x e = absurd (cc)
get_map f (y ∷ xs) zero x e = let same : y ≡ x = cc in ap (λ z. Some (f z)) same
get_map f (y ∷ xs) (suc i) x e = get_map f xs i x e

pub get_map_back : {A B : Type 0} (f : A → B) (xs : List A) (i : ℕ) (y : B) → slice_get (map f xs) i ≡ Some y → (x : A) × (slice_get xs i ≡ Some x) × (f x ≡ y)
get_map_back f [] i y e = absurd (cc)
get_map_back f (x ∷ xs) zero y e = let same : f x ≡ y = cc in (x, refl, same)
get_map_back f (x ∷ xs) (suc i) y e = get_map_back f xs i y e

pub get_map_none : {A B : Type 0} (f : A → B) (xs : List A) (i : ℕ) → slice_get xs i ≡ None → slice_get (map f xs) i ≡ None
get_map_none f [] i e = refl
get_map_none f (y ∷ xs) zero e = absurd (cc)
get_map_none f (y ∷ xs) (suc i) e = get_map_none f xs i e

pub map_alike : {A B : Type 0} (f g : A → B) (xs : List A) → ((j : ℕ) (z : A) → slice_get xs j ≡ Some z → g z ≡ f z) → map g xs ≡ map f xs
map_alike f g [] h = refl
map_alike f g (x ∷ xs) h =
    let first : g x ≡ f x = h zero x refl in
    let rest = map_alike f g xs (λ j z e. h (suc j) z e) in
    rw (first, rest) refl

-- two functions that differ at one place of a list
pub map_but : {A B : Type 0} (f g : A → B) (xs : List A) (i : ℕ) (x : A) (y : B) → slice_get xs i ≡ Some x → g x ≡ y
    → ((j : ℕ) (z : A) → slice_get xs j ≡ Some z → (j ≡ i → ⊥) → g z ≡ f z) → map g xs ≡ slice_set (map f xs) i y
map_but f g [] i x y e is h = absurd (cc)
map_but f g (z ∷ xs) zero x y e is h =
    let same : z ≡ x = cc in
    let first : g z ≡ y = ap g same ∙ is in
    let rest = map_alike f g xs (λ j w at. h (suc j) w at (λ s. absurd (omega arith))) in
    rw (first, rest) refl
map_but f g (z ∷ xs) (suc i) x y e is h =
    let first : g z ≡ f z = h zero z refl (λ s. absurd (omega arith)) in
    let rest = map_but f g xs i x y e is (λ j w at other. h (suc j) w at (λ s. other (omega arith))) in
    rw (first, rest) refl

pub length_map : {A B : Type 0} (f : A → B) (xs : List A) → length (map f xs) ≡ length xs
length_map f [] = refl
length_map f (x ∷ xs) = ap suc (length_map f xs)

pub length_slice_set : {X : Type 0} (xs : List X) (i : ℕ) (x : X) → length (slice_set xs i x) ≡ length xs
length_slice_set [] i x = refl
length_slice_set (z ∷ xs) zero x = refl
length_slice_set (z ∷ xs) (suc i) x = ap suc (length_slice_set xs i x)
