-- Digits in lower case, and the bytes that they say.
use Rattle.std.specs.Prelude.{ℕ, ◌+◌, ◌*◌, ◌/◌, ◌%◌, if◌then◌else◌, List, [], ◌∷◌, Option, Some, None, unwrap_or, Result, Ok, Err}
use Rattle.std.specs.List.{list_all}
use Rattle.hex.specs.declared.error.FromHexError.{FromHexError}
use Rattle.hex.specs.Hex.{decode_of}
use Rattle.plfs_types.specs.Parts.{is_lower_digit}

-- what a digit is worth: 48 to 57 are 0 to 9, and 97 to 102 are 10 to 15
abbrev pub worth_of : ℕ → ℕ
worth_of digit = (digit % 16 + 9 * (digit / 64)) % 16

-- the bytes of halves, two a byte, the high one first
abbrev pub joined_halves : List ℕ → List ℕ
joined_halves [] = []
joined_halves (high ∷ []) = []
joined_halves (high ∷ low ∷ halves) = (high * 16 + low) ∷ joined_halves halves

abbrev pub decoded : Result (List ℕ) FromHexError → Option (List ℕ)
decoded (Ok bytes) = Some bytes
decoded (Err why) = None

-- an even number of lower-case digits, two a byte
abbrev pub digits_of : List ℕ → Option (List ℕ)
digits_of word = if list_all is_lower_digit word then decoded (decode_of word) else None

-- the bytes that digits say, none where they say nothing
abbrev pub said_by : List ℕ → List ℕ
said_by word = unwrap_or (digits_of word) []
