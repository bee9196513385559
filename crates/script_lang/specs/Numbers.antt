-- Numbers in words: decimal, without sign and without leading zeros.
use Rattle.std.specs.Prelude.{ℕ, ◌+◌, ◌-◌, ◌*◌, ◌^◌, ◌==◌, ◌&&◌, ◌||◌, nat_le, nat_lt, Bool, List, [], ◌∷◌, length, slice_index, Option, Some, None, Result, Ok, Err, if◌then◌else◌}
use Rattle.std.specs.Char.{is_ascii_digit}
use Rattle.std.specs.Str.{all_ascii_digits}
use Rattle.script_lang.specs.declared.trouble.Kind.{Kind}
use Rattle.script_lang.specs.declared.trouble.Kind.TheVariants.{Number}

-- the number that digits write behind the digits of n
abbrev pub digits_behind : ℕ → List ℕ → ℕ
digits_behind n [] = n
digits_behind n (b ∷ bs) = digits_behind (10 * n + (b - 48)) bs

-- the same with one digit more, below 2^64
abbrev pub digit_behind : ℕ → ℕ → Option ℕ
digit_behind n b = if is_ascii_digit b && nat_lt (10 * n + (b - 48)) (2 ^ 64) then Some (10 * n + (b - 48)) else None

-- the number that digits write, of those below 2^64
abbrev pub value_of : List ℕ → Option ℕ
value_of digits = if all_ascii_digits digits && nat_lt (digits_behind 0 digits) (2 ^ 64) then Some (digits_behind 0 digits) else None

-- the first of several digits is 0
abbrev pub has_leading_zero : List ℕ → Bool
has_leading_zero word = nat_lt 1 (length word) && slice_index word 0 == 48

-- the number that a word writes, of those below 2^64
abbrev pub numeral_of : List ℕ → Option ℕ
numeral_of word = if length word == 0 || has_leading_zero word then None else value_of word

-- a number within these limits
abbrev pub within : ℕ → ℕ → Option ℕ → Result ℕ Kind
within least most None = Err Number
within least most (Some n) = if nat_le least n && nat_le n most then Ok n else Err Number

-- the number that a word writes, within these limits
abbrev pub number_within : ℕ → ℕ → List ℕ → Result ℕ Kind
number_within least most word = within least most (numeral_of word)

-- the same, or this number where the word is left out
abbrev pub number_or : ℕ → ℕ → ℕ → List ℕ → Result ℕ Kind
number_or other least most [] = Ok other
number_or other least most (b ∷ bs) = number_within least most (b ∷ bs)
