-- The bytes of data, one by one.
use Rattle.std.proofs.Common.{◌≡◌, ℕ, zero, suc, ◌^◌, ◌<◌, ◌≤◌, false, List, [], ◌∷◌, length, map, drop, get_or, Some, None, refl, sym, arith, nat_eq}
use Rattle.std.specs.List.{range_with_len}
use Rattle.std.proofs.lemmas.Bool.Decides.{nat_tests}
use Rattle.std.proofs.lemmas.List.{length-replicate}
use Rattle.std.proofs.lemmas.List.FromFn.{get_or-map-range_with_len, length-map-range_with_len}
use Rattle.script_lang.specs.Ranges.{FitsData}
use Rattle.script_lang.specs.declared.script.Data.{Data}
use Rattle.script_lang.specs.declared.script.Data.TheVariants.{Hex, Text, Fill, Ramp}
use Rattle.outcomes.specs.Data.{ramp_byte, length_of, bytes_of, first_difference}

pub ramp_at : (first len j : ℕ) → j < len → ramp_byte first j ≡ get_or (map (ramp_byte first) (range_with_len 0 len)) j 0
ramp_at first len j lt = sym (get_or-map-range_with_len (ramp_byte first) 0 len j j 0 lt (omega arith))

pub length_is : (content : Data) → length (bytes_of content) ≡ length_of content
length_is (Hex bytes) = refl
length_is (Text bytes) = refl
length_is (Fill len byte) = length-replicate {A = ℕ} len byte
length_is (Ramp len first) = length-map-range_with_len (ramp_byte first) 0 len

short : (content : Data) → FitsData content → length_of content ≤ 2 ^ 24
short (Hex bytes) fits = fits
short (Text bytes) fits = fits
short (Fill len byte) fits = fits
short (Ramp len first) fits = fits

-- some bytes, and not too many, are a block
pub block_fits : (content : Data) → FitsData content → 0 < length_of content → (1 ≤ length (bytes_of content)) × (length (bytes_of content) ≤ 2 ^ 24)
block_fits content fits some = (omega (arith, length_is content, some), omega (arith, length_is content, short content fits))

-- ---- where they differ

-- past the end of what is wanted nothing differs
pub none_past : (wanted found : List ℕ) (j place : ℕ) → length wanted ≤ j → first_difference place (drop j wanted) found ≡ None
none_past [] found zero place le = refl
none_past [] found (suc j) place le = refl
none_past (b ∷ wanted) found zero place le = absurd (omega arith)
none_past (b ∷ wanted) found (suc j) place le = none_past wanted found j place (omega arith)

ended_past : (wanted : List ℕ) (j place : ℕ) → j < length wanted → first_difference place (drop j wanted) [] ≡ Some place
ended_past [] j place lt = absurd (omega arith)
ended_past (b ∷ wanted) zero place lt = refl
ended_past (b ∷ wanted) (suc j) place lt = ended_past wanted j place (omega arith)

-- what was read has ended
pub ended_at : (wanted found : List ℕ) (j place : ℕ) → j < length wanted → length found ≤ j → first_difference place (drop j wanted) (drop j found) ≡ Some place
ended_at [] found j place lt le = absurd (omega arith)
ended_at (b ∷ wanted) [] zero place lt le = refl
ended_at (b ∷ wanted) (c ∷ found) zero place lt le = absurd (omega arith)
ended_at (b ∷ wanted) [] (suc j) place lt le = ended_past wanted j place (omega arith)
ended_at (b ∷ wanted) (c ∷ found) (suc j) place lt le = ended_at wanted found j place (omega arith) (omega arith)

-- or it is another byte
pub differs_at : (wanted found : List ℕ) (j place : ℕ) → j < length wanted → j < length found → (get_or found j 0 ≡ get_or wanted j 0 → ⊥) → first_difference place (drop j wanted) (drop j found) ≡ Some place
differs_at [] found j place lt within other = absurd (omega arith)
differs_at (b ∷ wanted) [] j place lt within other = absurd (omega arith)
differs_at (b ∷ wanted) (c ∷ found) zero place lt within other =
    let test : nat_eq b c ≡ false = grind (arith, nat_tests, other) in rw test refl
differs_at (b ∷ wanted) (c ∷ found) (suc j) place lt within other = differs_at wanted found j place (omega arith) (omega arith) other
