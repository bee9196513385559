-- The bytes that digits say.
use Rattle.std.proofs.Common.{◌≡◌, ℕ, ◌*◌, ◌/◌, ◌%◌, ◌==◌, true, false, List, [], length, Some, None, Result, Ok, Err, refl, sym, ap, ◌∙◌, inl, inr, arith}
use Rattle.std.specs.Prelude.{map}
use Rattle.std.specs.List.{list_all}
use Rattle.std.proofs.lemmas.Bool.{cases_Bool}
use Rattle.std.proofs.lemmas.Bool.Decides.{nat_tests}
use Rattle.hex.specs.declared.error.FromHexError.{FromHexError}
use Rattle.hex.specs.Hex.{decode_of, decode_pairs}
use Rattle.hex.proofs.HexLemmas.{decode_of-encode_lower, decode_of-ok}
use Rattle.plfs_types.specs.Parts.{is_lower_digit}
use Rattle.pack_input.specs.Digits.{decoded, digits_of, joined_halves, said_by, worth_of}
use Rattle.pack_input.proofs.Digits.{lower_pairs}
use Rattle.pack_input.proofs.Worths.{joined_decode}

pub decoded_so : (read : Result (List ℕ) FromHexError) (bytes : List ℕ) → decoded read ≡ Some bytes → read ≡ Ok bytes
decoded_so (Ok some) bytes is = let same : some ≡ bytes = cc in ap Ok same
decoded_so (Err why) bytes is = cc

-- no digits say no bytes
pub no_digits : digits_of [] ≡ Some []
unfolding decode_pairs
no_digits = refl

-- an even number of lower-case digits says bytes
pub lower_say : (word : List ℕ) → list_all is_lower_digit word ≡ true → length word % 2 ≡ 0 → digits_of word ≡ Some (said_by word)
lower_say word all even =
    let pairs = lower_pairs word all even in
    let read : decode_of word ≡ Ok pairs.0 = ap decode_of (sym pairs.2) ∙ decode_of-encode_lower pairs.0 pairs.1 in
    rw (all, read) refl

-- and digits that say bytes are so
pub record SaysBytes (word content : List ℕ) : Type 0 where
  pub lower : list_all is_lower_digit word ≡ true
  pub twice : length word ≡ 2 * length content
  pub decodes : decode_of word ≡ Ok content

pub says_bytes : (word content : List ℕ) → digits_of word ≡ Some content → SaysBytes word content
says_bytes word content says = elim (cases_Bool (list_all is_lower_digit word)) [
  | inl lower ↦
      let read : decoded (decode_of word) ≡ Some content = (let is : digits_of word ≡ decoded (decode_of word) = rw lower refl in sym is ∙ says) in
      let found = decoded_so (decode_of word) content read in
      let ok = decode_of-ok word content found in
      record { lower = lower; twice = ok.2; decodes = found }
  | inr upper ↦ let none : digits_of word ≡ None = rw upper refl in absurd (cc)
]

pub half_as_long : (word : List ℕ) → digits_of word ≡ Some (said_by word) → length word / 2 ≡ length (said_by word)
half_as_long word says = let twice = (says_bytes word (said_by word) says).twice in omega arith

pub even_digits : (word : List ℕ) → digits_of word ≡ Some (said_by word) → length word % 2 ≡ 0
even_digits word says = let twice = (says_bytes word (said_by word) says).twice in omega arith

-- they say the bytes of what they are worth
pub joined_say : (word : List ℕ) → digits_of word ≡ Some (said_by word) → joined_halves (map worth_of word) ≡ said_by word
joined_say word says =
    let so = says_bytes word (said_by word) says in
    let even = even_digits word says in
    let read : decode_of word ≡ Ok (joined_halves (map worth_of word)) = (let no_odd : (length word % 2 == 1) ≡ false = grind (arith, nat_tests) in rw no_odd (joined_decode word 0 so.lower even)) in
    let both : Ok (joined_halves (map worth_of word)) ≡ Ok (said_by word) = sym read ∙ so.decodes in
    cc
