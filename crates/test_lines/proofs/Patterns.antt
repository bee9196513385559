-- Patterns up to their first '%'.
use Rattle.std.proofs.Common.{◌≡◌, ℕ, suc, ◌+◌, ◌-◌, ◌<◌, ◌≤◌, List, [], ◌∷◌, ◌++◌, Bool, true, false, refl, ap, length, take, drop, get_or, ◌==◌, cond, arith, not}
use Rattle.std.specs.List.{position_or_len, before_first, after_first}
use Rattle.std.specs.Fmt.{decimal}
use Rattle.std.proofs.lemmas.List.{append-nil, take_rest}
use Rattle.test_lines.specs.Filled.{filled, first_of}

abbrev is_place : ℕ → Bool
is_place c = c == 37

plain_step : (test : Bool) (c here : ℕ) (pattern other rest : List ℕ) → cond (not test) (1 + here) 0 ≡ length (c ∷ pattern)
    → (here ≡ length pattern → rest ≡ pattern) → cond test other (c ∷ rest) ≡ c ∷ pattern
plain_step true c here pattern other rest none same = absurd (omega (arith, none))
plain_step false c here pattern other rest none same = ap (λ behind. c ∷ behind) (same (omega (arith, none)))

-- a pattern with no number's place in it
pub filled_plain : (pattern numbers : List ℕ) → position_or_len is_place pattern ≡ length pattern → filled pattern numbers ≡ pattern
filled_plain [] numbers none = refl
filled_plain (c ∷ pattern) numbers none =
    plain_step (c == 37) c (position_or_len is_place pattern) pattern (first_of numbers ++ filled pattern (drop 1 numbers)) (filled pattern numbers) none (filled_plain pattern numbers)

first_step : (test : Bool) (c here : ℕ) (pattern number rest : List ℕ) (of_rest : List ℕ → List ℕ) → cond (not test) (1 + here) 0 < length (c ∷ pattern)
    → (here < length pattern → rest ≡ take here pattern ++ (number ++ of_rest (drop (here + 1) pattern)))
    → cond test (number ++ of_rest pattern) (c ∷ rest)
    ≡ take (cond (not test) (1 + here) 0) (c ∷ pattern) ++ (number ++ of_rest (drop (cond (not test) (1 + here) 0 + 1) (c ∷ pattern)))
first_step true c here pattern number rest of_rest some same = refl
first_step false c here pattern number rest of_rest some same =
    let further : 1 + here ≡ suc here = omega arith in
    let behind : 1 + here + 1 ≡ suc (here + 1) = omega arith in
    rw (behind, further) (ap (λ text. c ∷ text) (same (omega (arith, some))))

-- the first number stands behind what stands before the first place
pub filled_first : (pattern numbers : List ℕ) → position_or_len is_place pattern < length pattern
    → filled pattern numbers ≡ before_first is_place pattern ++ (first_of numbers ++ filled (after_first is_place pattern) (drop 1 numbers))
filled_first [] numbers some = absurd (omega (arith, some))
filled_first (c ∷ pattern) numbers some =
    first_step (c == 37) c (position_or_len is_place pattern) pattern (first_of numbers) (filled pattern numbers) (λ rest. filled rest (drop 1 numbers)) some (filled_first pattern numbers)

-- the same where numbers are left, and the first of them is taken off
pub filled_next : (pattern numbers before behind digits : List ℕ) → 1 ≤ length numbers → position_or_len is_place pattern < length pattern
    → before ≡ before_first is_place pattern → behind ≡ after_first is_place pattern → digits ≡ decimal (get_or numbers 0 0)
    → filled pattern numbers ≡ before ++ (digits ++ filled behind (take (length numbers - 1) (drop 1 numbers)))
filled_next pattern [] before behind digits left some first rest spelled = absurd (omega (arith, left))
filled_next pattern (n ∷ numbers) before behind digits left some first rest spelled =
    rw (first, rest, spelled, take_rest (n ∷ numbers) 1) (rw (append-nil (decimal n)) at (filled_first pattern (n ∷ numbers) some))

-- and where none is left
pub filled_no_more : (pattern numbers before behind : List ℕ) → length numbers < 1 → position_or_len is_place pattern < length pattern
    → before ≡ before_first is_place pattern → behind ≡ after_first is_place pattern
    → filled pattern numbers ≡ before ++ filled behind numbers
filled_no_more pattern [] before behind none some first rest = rw (first, rest) (filled_first pattern [] some)
filled_no_more pattern (n ∷ numbers) before behind none some first rest = absurd (omega (arith, none))
