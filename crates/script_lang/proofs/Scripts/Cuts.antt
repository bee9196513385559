-- Where a list of parts is cut.
use Rattle.std.proofs.Common.{◌≡◌, ℕ, zero, suc, ◌+◌, ◌-◌, ◌<◌, ◌≤◌, Bool, true, false, cond, nat_lt, not, List, [], ◌∷◌, length, take, drop, Some, None, refl, sym, ap, ◌∙◌, arith, length-drop}
use Rattle.std.specs.List.{position_or_len, position, slice_split, onto_first, before_first, after_first}
use Rattle.std.proofs.Math.Seq.{take-length}
use Rattle.std.proofs.Math.ListN.{drop_of_length-le}
use Rattle.std.proofs.lemmas.Bool.Decides.{nat_tests}
use Rattle.std.proofs.lemmas.List.Splits.{slice_split_first, slice_split-cons_no}

guarded : (n len i : ℕ) (b : Bool) → nat_lt n len ≡ b → cond b (Some n) None ≡ Some i → (i ≡ n) × (i < len)
guarded n len i true below is = let same : n ≡ i = cc in let less : n < len = grind (arith, nat_tests) in (sym same, omega arith)
guarded n len i false below is = cc

pub unguarded : (n len : ℕ) (b : Bool) → nat_lt n len ≡ b → cond b (Some n) None ≡ None → len ≤ n
unguarded n len true below is = cc
unguarded n len false below is = grind (arith, nat_tests)

-- a slice from a place on is what lies behind that place
pub rest_of : {X : Type 0} (at : ℕ) (xs : List X) → take (length xs - at) (drop at xs) ≡ drop at xs
rest_of at xs = rw (← length-drop at xs, take-length) refl

-- before the first place that passes stands the first part
pub parts-cut : (p : ℕ → Bool) (xs : List ℕ) (i : ℕ) → position p xs ≡ Some i → slice_split p xs ≡ take i xs ∷ slice_split p (take (length xs - (i + 1)) (drop (i + 1) xs))
parts-cut p xs i is =
    let at = guarded (position_or_len p xs) (length xs) i _ refl is in
    let within : position_or_len p xs < length xs = rw (← at.0) at.1 in
    rw (rest_of (i + 1) xs, at.0) (slice_split_first p xs 0 within)

one_more : (p : ℕ → Bool) (x : ℕ) (xs : List ℕ) (b : Bool) → p x ≡ b → (length xs ≤ position_or_len p xs → slice_split p xs ≡ xs ∷ []) → suc (length xs) ≤ cond (not b) (1 + position_or_len p xs) 0 → slice_split p (x ∷ xs) ≡ (x ∷ xs) ∷ []
one_more p x xs true is rest none = absurd (omega arith)
one_more p x xs false is rest none =
    let fewer : length xs ≤ position_or_len p xs = omega arith in
    slice_split-cons_no p x xs is ∙ ap (onto_first x) (rest fewer)

one_part : (p : ℕ → Bool) (xs : List ℕ) → length xs ≤ position_or_len p xs → slice_split p xs ≡ xs ∷ []
one_part p [] none = refl
one_part p (x ∷ xs) none = one_more p x xs (p x) refl (one_part p xs) none

-- where no place passes, there is one part
pub parts-whole : (p : ℕ → Bool) (xs : List ℕ) → position p xs ≡ None → slice_split p xs ≡ xs ∷ []
parts-whole p xs is = one_part p xs (unguarded (position_or_len p xs) (length xs) _ refl is)

whole_front : (n : ℕ) (xs : List ℕ) → length xs ≤ n → take n xs ≡ xs
whole_front zero [] long = refl
whole_front (suc n) [] long = refl
whole_front zero (x ∷ xs) long = absurd (omega arith)
whole_front (suc n) (x ∷ xs) long = let shorter : length xs ≤ n = omega arith in ap (λ ys. x ∷ ys) (whole_front n xs shorter)

-- what stands on the two sides of the first place that passes
pub before-cut : (p : ℕ → Bool) (xs : List ℕ) (i : ℕ) → position p xs ≡ Some i → take i xs ≡ before_first p xs
before-cut p xs i is = let at = guarded (position_or_len p xs) (length xs) i _ refl is in rw (at.0) refl

pub after-cut : (p : ℕ → Bool) (xs : List ℕ) (i : ℕ) → position p xs ≡ Some i → take (length xs - (i + 1)) (drop (i + 1) xs) ≡ after_first p xs
after-cut p xs i is = let at = guarded (position_or_len p xs) (length xs) i _ refl is in rw (rest_of (i + 1) xs, at.0) refl

pub before-whole : (p : ℕ → Bool) (xs : List ℕ) → position p xs ≡ None → xs ≡ before_first p xs
before-whole p xs is =
    let none = unguarded (position_or_len p xs) (length xs) _ refl is in
    sym (whole_front (position_or_len p xs) xs none)

pub after-whole : (p : ℕ → Bool) (xs : List ℕ) → position p xs ≡ None → [] ≡ after_first p xs
after-whole p xs is =
    let none = unguarded (position_or_len p xs) (length xs) _ refl is in
    let past : length xs ≤ position_or_len p xs + 1 = omega arith in
    sym (drop_of_length-le xs past)
