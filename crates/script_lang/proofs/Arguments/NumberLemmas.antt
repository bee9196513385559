-- Numbers within limits.
use Rattle.std.proofs.Common.{◌≡◌, ℕ, ◌^◌, ◌<◌, ◌≤◌, ◌&&◌, nat_le, Bool, true, false, cond, List, Option, Some, None, Ok, Err, refl, ap, ◌∙◌, arith}
use Rattle.std.specs.Fmt.{decimal}
use Rattle.std.proofs.lemmas.Bool.Decides.{nat_tests}
use Rattle.script_lang.specs.declared.trouble.Kind.{Kind}
use Rattle.script_lang.specs.declared.trouble.Kind.TheVariants.{Number}
use Rattle.script_lang.specs.Numbers.{numeral_of, within, number_within}
use Rattle.script_lang.proofs.Arguments.Decimals.{number_written, number_read}

tested : (least most m n : ℕ) (low high : Bool) → nat_le least m ≡ low → nat_le m most ≡ high → cond (low && high) (Ok m) (Err Number) ≡ Ok n → (least ≤ n) × (n ≤ most) × (m ≡ n)
tested least most m n true true is_low is_high is =
    let same : m ≡ n = cc in
    let above : least ≤ m = grind (arith, nat_tests) in
    let below : m ≤ most = grind (arith, nat_tests) in
    (rw (← same) above, rw (← same) below, same)
tested least most m n true false is_low is_high is = cc
tested least most m n false high is_low is_high is = cc

found_within : (least most n : ℕ) (number : Option ℕ) → within least most number ≡ Ok n → (number ≡ Some n) × (least ≤ n) × (n ≤ most)
found_within least most n None is = cc
found_within least most n (Some m) is =
    let each = tested least most m n (nat_le least m) (nat_le m most) refl refl is in
    (ap (λ k. Some k) each.2, each.0, each.1)

-- a number that is read is written so
pub number_found : (least most n : ℕ) (word : List ℕ) → number_within least most word ≡ Ok n → (word ≡ decimal n) × (least ≤ n) × (n ≤ most) × (n < 2 ^ 64)
number_found least most n word is =
    let each = found_within least most n (numeral_of word) is in
    let written = number_written word n each.0 in
    (written.0, each.1, each.2, written.1)

in_limits : (least most n : ℕ) → least ≤ n → n ≤ most → within least most (Some n) ≡ Ok n
in_limits least most n low high =
    let from : nat_le least n ≡ true = grind (arith, nat_tests) in
    let to : nat_le n most ≡ true = grind (arith, nat_tests) in
    rw (from, to) refl

-- and what is written so is read
pub number_again : (least most n : ℕ) → n < 2 ^ 64 → least ≤ n → n ≤ most → number_within least most (decimal n) ≡ Ok n
number_again least most n small low high = ap (within least most) (number_read n small) ∙ in_limits least most n low high

chosen : (b : Bool) (n : ℕ) (kind : Kind) → cond b (Ok n) (Err Number) ≡ Err kind → kind ≡ Number
chosen true n kind is = cc
chosen false n kind is = cc

number_kind : (least most : ℕ) (number : Option ℕ) (kind : Kind) → within least most number ≡ Err kind → kind ≡ Number
number_kind least most None kind is = cc
number_kind least most (Some n) kind is = chosen (nat_le least n && nat_le n most) n kind is

-- the only fault of a number is one
pub number_refused : (least most : ℕ) (word : List ℕ) (kind : Kind) → number_within least most word ≡ Err kind → kind ≡ Number
number_refused least most word kind is = number_kind least most (numeral_of word) kind is
