-- Numbers read from their texts.
use Rattle.std.proofs.Common.{◌≡◌, ℕ, ◌<◌, ◌≤◌, ◌^◌, Bool, true, false, cond, nat_lt, ◌&&◌, List, Some, None, refl, arith}
use Rattle.std.specs.Str.{bytes_eq}
use Rattle.std.specs.Str.Parse.{digits_value}
use Rattle.std.specs.Fmt.{decimal}
use Rattle.std.proofs.lemmas.Fmt.{decimal_is_IsNumeral_wide}
use Rattle.std.proofs.lemmas.Slice.Eq.{bytes_eq-Decides}
use Rattle.std.proofs.lemmas.Bool.Decides.{nat_tests}
use Rattle.report_text.specs.Reading.{number_below, number_spelled, wide_at}

pub bytes_eq-same : (bytes : List ℕ) → bytes_eq bytes bytes ≡ true
bytes_eq-same bytes = (bytes_eq-Decides bytes bytes).1 refl

-- the text of a number below the limit is read as that number
pub number_below-some : (limit n : ℕ) (word : List ℕ) → limit ≤ 10 ^ 64 → n < limit → word ≡ decimal n → number_below limit word ≡ Some n
unfolding number_below
number_below-some limit n word low small is =
    let value : digits_value 10 (decimal n) ≡ n = (decimal_is_IsNumeral_wide n (omega arith)).1 in
    let fits : nat_lt n limit ≡ true = grind (arith, nat_tests) in
    rw (is, value, fits, bytes_eq-same (decimal n)) refl

chosen_none : {X : Type 0} (b : Bool) (x : X) → (b ≡ true → ⊥) → cond b (Some x) None ≡ None
chosen_none true x h = absurd (h refl)
chosen_none false x h = refl

-- any other text is not
pub number_below-none : (limit : ℕ) (word : List ℕ) → ((n : ℕ) → n < limit → word ≡ decimal n → ⊥) → number_below limit word ≡ None
unfolding number_below
number_below-none limit word other =
    chosen_none (nat_lt (digits_value 10 word) limit && bytes_eq word (decimal (digits_value 10 word))) (digits_value 10 word) (λ both.
    let fits : digits_value 10 word < limit = grind (arith, nat_tests, both) in
    let same : bytes_eq word (decimal (digits_value 10 word)) ≡ true = grind (arith, nat_tests, both) in
    other (digits_value 10 word) fits ((bytes_eq-Decides word (decimal (digits_value 10 word))).0 same))

pub number_at-some : (n : ℕ) (word : List ℕ) → n < 2 ^ 64 → word ≡ decimal n → number_spelled word ≡ Some n
unfolding number_spelled
number_at-some n word small is = number_below-some (2 ^ 64) n word (omega arith) small is

pub number_at-none : (word : List ℕ) → ((n : ℕ) → n < 2 ^ 64 → word ≡ decimal n → ⊥) → number_spelled word ≡ None
unfolding number_spelled
number_at-none word other = number_below-none (2 ^ 64) word other

pub wide_at-some : (n : ℕ) (word : List ℕ) → n < 2 ^ 128 → word ≡ decimal n → wide_at word ≡ Some n
unfolding wide_at
wide_at-some n word small is = number_below-some (2 ^ 128) n word (omega arith) small is

pub wide_at-none : (word : List ℕ) → ((n : ℕ) → n < 2 ^ 128 → word ≡ decimal n → ⊥) → wide_at word ≡ None
unfolding wide_at
wide_at-none word other = number_below-none (2 ^ 128) word other
