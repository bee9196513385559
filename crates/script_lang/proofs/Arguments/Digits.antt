-- Numbers, read digit by digit.
use Rattle.std.proofs.Common.{◌≡◌, ℕ, ◌+◌, ◌-◌, ◌*◌, ◌^◌, ◌≤◌, ◌<◌, nat_lt, Bool, true, false, cond, ◌&&◌, List, [], ◌∷◌, Option, Some, None, length, drop, get_or, drop-cons, add-one, refl, sym, arith}
use Rattle.std.specs.Prelude.{option_and_then}
use Rattle.std.specs.Char.{is_ascii_digit}
use Rattle.std.specs.Str.{all_ascii_digits}
use Rattle.std.proofs.Math.ListN.{drop_of_length-le}
use Rattle.std.proofs.lemmas.Bool.Decides.{nat_tests}
use Rattle.script_lang.specs.Numbers.{digits_behind, digit_behind, value_of}

-- the number of digits behind those of n, as far as it stays below 2^64
abbrev pub value_from : ℕ → List ℕ → Option ℕ
value_from n [] = Some n
value_from n (b ∷ bs) = option_and_then (λ m. value_from m bs) (digit_behind n b)

digits_grow : (n : ℕ) (bs : List ℕ) → n ≤ digits_behind n bs
digits_grow n [] = omega arith
digits_grow n (b ∷ bs) = omega (arith, digits_grow (10 * n + (b - 48)) bs)

too_much : (m : ℕ) (bs : List ℕ) (all : Bool) → nat_lt m (2 ^ 64) ≡ false → cond (all && nat_lt (digits_behind m bs) (2 ^ 64)) (Some (digits_behind m bs)) None ≡ None
too_much m bs false big = refl
too_much m bs true big =
    let grown = digits_grow m bs in
    let much : nat_lt (digits_behind m bs) (2 ^ 64) ≡ false = grind (arith, nat_tests) in
    rw much refl

step : (m : ℕ) (bs : List ℕ) (digit small : Bool) → nat_lt m (2 ^ 64) ≡ small → (nat_lt m (2 ^ 64) ≡ true → value_from m bs ≡ cond (all_ascii_digits bs && nat_lt (digits_behind m bs) (2 ^ 64)) (Some (digits_behind m bs)) None) → option_and_then (λ m. value_from m bs) (cond (digit && small) (Some m) None) ≡ cond ((digit && all_ascii_digits bs) && nat_lt (digits_behind m bs) (2 ^ 64)) (Some (digits_behind m bs)) None
step m bs false small is rest = refl
step m bs true true is rest = rest is
step m bs true false is rest = sym (too_much m bs (all_ascii_digits bs) is)

value_from-all : (n : ℕ) (bs : List ℕ) → nat_lt n (2 ^ 64) ≡ true → value_from n bs ≡ cond (all_ascii_digits bs && nat_lt (digits_behind n bs) (2 ^ 64)) (Some (digits_behind n bs)) None
value_from-all n [] small = rw small refl
value_from-all n (b ∷ bs) small = step (10 * n + (b - 48)) bs (is_ascii_digit b) (nat_lt (10 * n + (b - 48)) (2 ^ 64)) refl (value_from-all (10 * n + (b - 48)) bs)

pub value_is : (digits : List ℕ) → value_from 0 digits ≡ value_of digits
value_is digits = value_from-all 0 digits refl

-- one digit more
pub value_on : (n i : ℕ) (digits : List ℕ) → i < length digits → value_from n (drop i digits) ≡ option_and_then (λ m. value_from m (drop (i + 1) digits)) (digit_behind n (get_or digits i 0))
value_on n i digits within = rw (add-one, drop-cons digits i 0) refl

-- what is no digit, or too much, ends the reading
pub value_stops : (n i : ℕ) (digits : List ℕ) → i < length digits → None ≡ digit_behind n (get_or digits i 0) → value_from n (drop i digits) ≡ value_from 0 digits → None ≡ value_of digits
value_stops n i digits within none kept = rw (← value_is digits, ← kept, value_on n i digits within, ← none) refl

-- behind the last digit stands the number
pub value_ends : (n i : ℕ) (digits : List ℕ) → length digits ≤ i → value_from n (drop i digits) ≡ value_from 0 digits → Some n ≡ value_of digits
value_ends n i digits past kept = rw (← value_is digits, ← kept, drop_of_length-le digits past) refl
