-- Numbers of 8 bytes, side by side.
use Rattle.std.proofs.Common.{◌≡◌, ℕ, zero, suc, ◌+◌, ◌<◌, ◌≤◌, ◌^◌, List, [], ◌∷◌, ◌++◌, length, take, drop, refl, sym, ap, ◌∙◌, arith}
use Rattle.std.specs.Int.{w64, to_le_bytes, from_le_bytes}
use Rattle.std.proofs.lemmas.Nat.{le_bytes_8, from_le_bytes-to_le_bytes_8}
use Rattle.std.proofs.lemmas.List.{append-nil, length-take, length-drop, drop-drop, take-append-drop}
use Rattle.std.proofs.Math.Seq.{take-add}
use Rattle.plfs_types.specs.declared.entries.Entry.{Entry}
use Rattle.index_entry.specs.Spelling.{spelling, number_in, entry_in, FitsPlaces, Spells}
use Rattle.index_entry.specs.Records.{IsBytes, IsFormat}

pub IsBytes-drop : (n : ℕ) (bytes : List ℕ) → IsBytes bytes → IsBytes (drop n bytes)
IsBytes-drop zero bytes are = are
IsBytes-drop (suc n) [] are = λ i. omega arith
IsBytes-drop (suc n) (b ∷ bytes) are = IsBytes-drop n bytes (λ i. are (suc i))

pub IsBytes-take : (n : ℕ) (bytes : List ℕ) → IsBytes bytes → IsBytes (take n bytes)
IsBytes-take zero bytes are i = omega arith
IsBytes-take (suc n) [] are i = omega arith
IsBytes-take (suc n) (b ∷ bytes) are zero = are 0
IsBytes-take (suc n) (b ∷ bytes) are (suc i) = IsBytes-take n bytes (λ j. are (suc j)) i

pub number_back : (place : ℕ) (bytes : List ℕ) → IsBytes bytes → place + 8 ≤ length bytes
    → to_le_bytes w64 (number_in place bytes) ≡ take 8 (drop place bytes)
number_back place bytes are long =
    le_bytes_8 (take 8 (drop place bytes)) _ (simp (length-take, length-drop) (omega arith)) (IsBytes-take 8 (drop place bytes) (IsBytes-drop place bytes are)) refl

eight_fit : (bytes : List ℕ) → IsBytes bytes → from_le_bytes w64 bytes < 2 ^ 64
eight_fit bytes are = omega (arith, are 0, are 1, are 2, are 3, are 4, are 5, are 6, are 7)

pub number_fits : (place : ℕ) (bytes : List ℕ) → IsBytes bytes → number_in place bytes < 2 ^ 64
number_fits place bytes are = eight_fit (take 8 (drop place bytes)) (IsBytes-take 8 (drop place bytes) (IsBytes-drop place bytes are))

-- the number that is there, by what it is spelled as
pub number_is : (n place : ℕ) (bytes : List ℕ) → n < 2 ^ 64 → to_le_bytes w64 n ≡ take 8 (drop place bytes) → n ≡ number_in place bytes
number_is n place bytes fits same = sym (from_le_bytes-to_le_bytes_8 n fits) ∙ ap (from_le_bytes w64) same

-- the numbers before it, and this one
pub grown : (place : ℕ) (bytes front : List ℕ) → IsBytes bytes → place + 8 ≤ length bytes → front ≡ take place bytes
    → front ++ to_le_bytes w64 (number_in place bytes) ≡ take (place + 8) bytes
grown place bytes front are long same =
    ap (λ (x : List ℕ). x ++ to_le_bytes w64 (number_in place bytes)) same
    ∙ ap (λ (x : List ℕ). take place bytes ++ x) (number_back place bytes are long)
    ∙ sym (take-add place 8 bytes)

-- a number further on
pub number_further : (further place : ℕ) (bytes : List ℕ) → number_in (place + further) bytes ≡ number_in further (drop place bytes)
number_further further place bytes = ap (λ (rest : List ℕ). from_le_bytes w64 (take 8 rest)) (sym (drop-drop further place bytes))

-- entries are a format
pub entries_format : IsFormat Entry 40 spelling entry_in FitsPlaces
unfolding spelling entry_in
entries_format = record {
  wide = λ e. refl;
  again = λ e rest fits. (
      let a : number_in 0 (spelling e ++ rest) ≡ e.at = from_le_bytes-to_le_bytes_8 e.at fits.at_fits in
      let b : number_in 8 (spelling e ++ rest) ≡ e.len = from_le_bytes-to_le_bytes_8 e.len fits.len_fits in
      let c : number_in 16 (spelling e ++ rest) ≡ e.physical = from_le_bytes-to_le_bytes_8 e.physical fits.physical_fits in
      let d : number_in 24 (spelling e ++ rest) ≡ e.stamp = from_le_bytes-to_le_bytes_8 e.stamp fits.stamp_fits in
      let f : number_in 32 (spelling e ++ rest) ≡ e.writer = from_le_bytes-to_le_bytes_8 e.writer fits.writer_fits in
      λ i. record { at = a i; len = b i; physical = c i; stamp = d i; writer = f i });
  back = λ bytes are long.
      grown 32 bytes _ are (omega arith) (grown 24 bytes _ are (omega arith) (grown 16 bytes _ are (omega arith)
      (grown 8 bytes _ are (omega arith) (number_back 0 bytes are (omega arith)))));
  fits = λ bytes are. record {
    at_fits = number_fits 0 bytes are;
    len_fits = number_fits 8 bytes are;
    physical_fits = number_fits 16 bytes are;
    stamp_fits = number_fits 24 bytes are;
    writer_fits = number_fits 32 bytes are;
  };
}

-- what spells an entry is read as it
pub read_again : (bytes : List ℕ) (e : Entry) → Spells bytes e → entry_in bytes ≡ e
read_again bytes e spells =
    ap entry_in (spells.spelled ∙ sym (append-nil (spelling e))) ∙ entries_format.again e [] spells.places

-- the entry that the first bytes spell
pub entry_is : (bytes : List ℕ) (e : Entry) → Spells (take 40 bytes) e → e ≡ entry_in bytes
entry_is bytes e spells =
    let whole : spelling e ++ drop 40 bytes ≡ bytes = ap (λ (x : List ℕ). x ++ drop 40 bytes) (sym spells.spelled) ∙ take-append-drop 40 bytes in
    sym (entries_format.again e (drop 40 bytes) spells.places) ∙ ap entry_in whole
