-- Decimal forms, and texts that begin with one.
use Rattle.std.proofs.Common.{◌≡◌, ℕ, zero, suc, ◌<◌, ◌≤◌, ◌^◌, List, length, get_or, Ok, Err, sym, ap, subst, ◌∙◌, arith}
use Rattle.std.specs.Fmt.{decimal}
use Rattle.std.specs.Str.{IsUtf8}
use Rattle.std.specs.Str.Parse.{AllDigits, digits_value, ParsesUnsigned}
use Rattle.std.specs.Int.{IsInRange}
use Rattle.std.proofs.lemmas.Fmt.{digits_decimal, digits_value-decimal, decimal-digits_value, decimal_nonempty, first_decimal, IsAscii-decimal, length-decimal-le, decimal_digit}
use Rattle.std.proofs.lemmas.Str.{IsUtf8-from_ascii}
use Rattle.std.proofs.lemmas.Str.Parse.{IsNumeralModel, numerals_by_value, tells_digits, digit_at, parse_plain}
use Rattle.container_layout.specs.Numbers.{BeginsPlain, IsNumber}

own : IsNumeralModel (AllDigits 10) (digits_value 10)
own = numerals_by_value (AllDigits 10) tells_digits

pub digits : (n : ℕ) → n < 2 ^ 64 → AllDigits 10 (decimal n)
digits n lt = digits_decimal own n lt

-- each byte is a digit
pub byte_of : (n i : ℕ) → n < 2 ^ 64 → i < length (decimal n) → IsInRange 48 57 (get_or (decimal n) i 0)
byte_of n i lt here = digit_at (decimal n) i (digits n lt) here

-- only 0 begins with a zero
pub no_leading_zero : (n : ℕ) → n < 2 ^ 64 → get_or (decimal n) 0 0 ≡ 48 → length (decimal n) ≡ 1
no_leading_zero zero lt first = ap length (decimal_digit 0 (omega arith))
no_leading_zero (suc m) lt first = absurd (omega (arith, first_decimal (suc m) (omega arith) lt, first))

pub plain : (n : ℕ) → n < 2 ^ 64 → (get_or (decimal n) 0 0 ≡ 43 → ⊥) × (get_or (decimal n) 0 0 ≡ 48 → length (decimal n) ≡ 1)
plain n lt =
    let digit = byte_of n 0 lt (decimal_nonempty n lt) in
    (λ plus. omega (arith, digit.0, digit.1, plus), no_leading_zero n lt)

pub number_begins_plain : (text : List ℕ) (n : ℕ) → IsNumber text n → BeginsPlain text
number_begins_plain text n is =
    let P : List ℕ → Type 0 = λ t. BeginsPlain t in subst P (sym is.printed) (plain n is.fits)

pub number_is_utf8 : (text : List ℕ) (n : ℕ) → IsNumber text n → IsUtf8 text
number_is_utf8 text n is =
    let P : List ℕ → Type 0 = λ t. IsUtf8 t in
    subst P (sym is.printed) (IsUtf8-from_ascii (decimal n) (IsAscii-decimal n is.fits))

-- what `parse` gives of a plain text
pub parsed_is_number : (given text : List ℕ) (n : ℕ) → given ≡ text → BeginsPlain text → ParsesUnsigned {E = ℕ} 64 10 given (Ok n) → IsNumber text n
parsed_is_number given text n same begins parsed =
    let P : List ℕ → Type 0 = λ t. ParsesUnsigned {E = ℕ} 64 10 t (Ok n) in
    let read = parse_plain own {E = ℕ} 64 text (Ok n) (subst P same parsed) begins.0 in
    record {
      fits = omega (arith, read.0.2, read.1);
      printed = sym (decimal-digits_value own text read.0.0 read.0.1 begins.1 read.0.2) ∙ ap decimal (sym read.1);
    }

pub refused_is_no_number : (given text : List ℕ) → given ≡ text → BeginsPlain text → ParsesUnsigned {E = ℕ} 64 10 given (Err 0) → (n : ℕ) → IsNumber text n → ⊥
refused_is_no_number given text same begins refused n is =
    let P : List ℕ → Type 0 = λ t. ParsesUnsigned {E = ℕ} 64 10 t (Err 0) in
    let read = parse_plain own {E = ℕ} 64 text (Err 0) (subst P same refused) begins.0 in
    let Q : List ℕ → Type 0 = λ t. AllDigits 10 t × (0 < length t) × (digits_value 10 t < 2 ^ 64) in
    read (subst Q (sym is.printed) (digits n is.fits, decimal_nonempty n is.fits, omega (arith, digits_value-decimal own n is.fits, is.fits)))

-- lengths of decimal forms
pub short_decimal : (n : ℕ) → n < 2 ^ 64 → length (decimal n) ≤ 20
short_decimal n lt = length-decimal-le 20 n (omega arith) (omega arith) lt
