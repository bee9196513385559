-- Data in words.
use Rattle.std.specs.Prelude.{ℕ, ◌^◌, ◌==◌, List, drop, Result, Ok, Err, if◌then◌else◌, codes, nat_eq}
use Rattle.std.specs.List.{list_all, starts_with, before_first, after_first}
use Rattle.hex.specs.declared.error.FromHexError.{FromHexError}
use Rattle.hex.specs.Hex.{decode_of}
use Rattle.script_lang.specs.declared.script.Data.{Data}
use Rattle.script_lang.specs.declared.script.Data.TheVariants as data_of
use Rattle.script_lang.specs.declared.trouble.Kind.{Kind}
use Rattle.script_lang.specs.declared.trouble.Kind.TheVariants as kinds
use Rattle.script_lang.specs.Numbers.{number_within}
use Rattle.script_lang.specs.Spelling.{is_seen}
use Rattle.plfs_types.specs.Parts.{is_lower_digit}

abbrev pub decoded : Result (List ℕ) FromHexError → Result Data Kind
decoded (Ok bytes) = Ok (data_of.Hex bytes)
decoded (Err _) = Err kinds.Data

-- an even number of lower-case digits, two a byte
abbrev pub hex_data : List ℕ → Result Data Kind
hex_data digits = if list_all is_lower_digit digits then decoded (decode_of digits) else Err kinds.Data

-- bytes that are seen
abbrev pub text_data : List ℕ → Result Data Kind
text_data bytes = if list_all is_seen bytes then Ok (data_of.Text bytes) else Err kinds.Data

-- two numbers with a colon between them: a length of at most 2^24, and a byte
abbrev pub length_and_byte : (ℕ → ℕ → Data) → Result ℕ Kind → Result ℕ Kind → Result Data Kind
length_and_byte made (Ok len) (Ok byte) = Ok (made len byte)
length_and_byte made (Ok len) (Err _) = Err kinds.Data
length_and_byte made (Err _) byte = Err kinds.Data

abbrev pub pair_data : (ℕ → ℕ → Data) → List ℕ → Result Data Kind
pair_data made pair = length_and_byte made (number_within 0 (2 ^ 24) (before_first (λ b. b == 58) pair)) (number_within 0 255 (after_first (λ b. b == 58) pair))

-- data by its length
abbrev pub counted_data : List ℕ → Result Data Kind
counted_data word =
    if starts_with nat_eq word (codes "fill:") then pair_data data_of.Fill (drop 5 word)
    else if starts_with nat_eq word (codes "ramp:") then pair_data data_of.Ramp (drop 5 word)
    else Err kinds.Data

-- the data that a word writes
abbrev pub data_in : List ℕ → Result Data Kind
data_in word =
    if starts_with nat_eq word (codes "hex:") then hex_data (drop 4 word)
    else if starts_with nat_eq word (codes "text:") then text_data (drop 5 word)
    else counted_data word
