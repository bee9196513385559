-- The words that are numbers are what is printed of numbers.
use Rattle.std.proofs.Common.{◌≡◌, ℕ, zero, suc, ◌+◌, ◌-◌, ◌*◌, ◌^◌, ◌<◌, ◌==◌, ◌&&◌, ◌||◌, nat_lt, Bool, true, false, cond, List, length, get_or, Option, Some, None, refl, sym, ap, ◌∙◌, arith}
use Rattle.std.specs.Prelude.{IfSome}
use Rattle.std.specs.Str.{all_ascii_digits}
use Rattle.std.specs.Fmt.{decimal}
use Rattle.std.proofs.lemmas.Bool.Decides.{nat_tests}
use Rattle.std.proofs.lemmas.Fmt.{decimal-digits_value, digits_decimal, digits_value-decimal, decimal_nonempty, first_decimal, decimal_digit}
use Rattle.std.proofs.lemmas.Str.Parse.{IsNumeralModel, numerals_by_fold, tells_all_ascii_digits}
use Rattle.script_lang.specs.Numbers.{digits_behind, has_leading_zero, numeral_of}

pub own : IsNumeralModel (λ ds. all_ascii_digits ds ≡ true) (digits_behind 0)
own = numerals_by_fold (λ ds. all_ascii_digits ds ≡ true) tells_all_ascii_digits digits_behind (record {
  empty = λ n. refl;
  more = λ n c cs digit. ap (λ m. digits_behind m cs) (let same : 10 * n + (c - 48) ≡ n * 10 + (c - 48) = omega arith in same);
})

found : (v n : ℕ) (none zeros all small : Bool) → cond (none || zeros) None (cond (all && small) (Some v) None) ≡ Some n → (none ≡ false) × (zeros ≡ false) × (all ≡ true) × (small ≡ true) × (v ≡ n)
found v n true zeros all small is = cc
found v n false true all small is = cc
found v n false false true true is = let same : v ≡ n = cc in (refl, refl, refl, refl, same)
found v n false false true false is = cc
found v n false false false small is = cc

-- what is read as a number is what is printed of it
pub number_written : (word : List ℕ) (n : ℕ) → numeral_of word ≡ Some n → (word ≡ decimal n) × (n < 2 ^ 64)
number_written word n is =
    let each = found (digits_behind 0 word) n (length word == 0) (has_leading_zero word) (all_ascii_digits word) (nat_lt (digits_behind 0 word) (2 ^ 64)) is in
    let some : 0 < length word = let h = each.0 in grind (arith, nat_tests) in
    let lone : get_or word 0 0 ≡ 48 → length word ≡ 1 = let h = each.1 in λ zero. grind (arith, nat_tests) in
    let small : digits_behind 0 word < 2 ^ 64 = let h = each.3 in grind (arith, nat_tests) in
    (sym (decimal-digits_value own word each.2 some lone small) ∙ ap decimal each.4, rw (← each.4) small)

shown : (v n : ℕ) (none zeros all small : Bool) → none ≡ false → zeros ≡ false → all ≡ true → small ≡ true → v ≡ n → cond (none || zeros) None (cond (all && small) (Some v) None) ≡ Some n
shown v n none zeros all small hn hz ha hs same = rw (hn, hz, ha, hs, same) refl

not_both : (a b : Bool) → b ≡ false → (a && b) ≡ false
not_both true b is = is
not_both false b is = refl

no_zero : (n : ℕ) → n < 2 ^ 64 → has_leading_zero (decimal n) ≡ false
no_zero zero small = rw (decimal_digit 0 (omega arith)) refl
no_zero (suc n) small =
    let first = first_decimal (suc n) (omega arith) small in
    not_both (nat_lt 1 (length (decimal (suc n)))) (get_or (decimal (suc n)) 0 0 == 48) (grind (arith, nat_tests))

-- and what is printed of a number is read as it
pub number_read : (n : ℕ) → n < 2 ^ 64 → numeral_of (decimal n) ≡ Some n
number_read n small =
    let some = decimal_nonempty n small in
    let value = digits_value-decimal own n small in
    shown (digits_behind 0 (decimal n)) n (length (decimal n) == 0) (has_leading_zero (decimal n)) (all_ascii_digits (decimal n)) (nat_lt (digits_behind 0 (decimal n)) (2 ^ 64))
    (grind (arith, nat_tests)) (no_zero n small) (digits_decimal own n small) (rw value (grind (arith, nat_tests))) value

-- what a reader of numbers answers is so written
pub is_written : (word : List ℕ) (answer : Option ℕ) → answer ≡ numeral_of word → IfSome answer (λ n. word ≡ decimal n)
is_written word None is = tt
is_written word (Some n) is = (number_written word n (sym is)).0

-- and what is so written is answered
pub is_read : (word : List ℕ) (answer : Option ℕ) → answer ≡ numeral_of word → (n : ℕ) → n < 2 ^ 64 → word ≡ decimal n → answer ≡ Some n
is_read word answer is n small written = is ∙ (ap numeral_of written ∙ number_read n small)
