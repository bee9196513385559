-- Bytes spell the runs that they have by their count, and no others.
use Rattle.std.proofs.Common.{◌≡◌, ℕ, ◌+◌, ◌*◌, List, [], ◌++◌, length, take, drop, refl, sym, ap, ◌∙◌, subst, arith}
use Rattle.std.specs.List.{flat_map}
use Rattle.std.specs.Int.{w64, to_le_bytes}
use Rattle.std.proofs.lemmas.Nat.{from_le_bytes-to_le_bytes_8}
use Rattle.std.proofs.lemmas.List.{length-append, length-drop, append-nil, take_all}
use Rattle.std.proofs.Math.Seq.{take-add}
use Rattle.index_entry.specs.Spelling.{number_in}
use Rattle.index_entry.specs.Records.{IsBytes, records_in}
use Rattle.index_entry.proofs.Facts.{grown, number_fits, IsBytes-drop, length-records_in, length-spelled, records_again, records_back, records_fit}
use Rattle.index_pack.specs.declared.runs.Run.{Run}
use Rattle.index_pack.specs.Bad.{HasHead, HasLength}
use Rattle.index_pack.specs.Reading.{run_in, runs_in}
use Rattle.index_pack.specs.Spelling.{letters, run_spelling, pack_spelling, SpellsRuns}
use Rattle.index_pack.proofs.Formats.{runs_format}

length-pack : (count : ℕ) (runs : List Run) → length (pack_spelling count runs) ≡ 24 + 64 * length runs
length-pack count runs =
    let head : List ℕ = letters ++ to_le_bytes w64 count ++ to_le_bytes w64 (length runs) in
    let long : length head ≡ 24 = refl in
    omega (arith, length-append head (flat_map run_spelling runs), long, length-spelled runs_format runs)

pub count_spelled : (bytes : List ℕ) (count : ℕ) (runs : List Run) → SpellsRuns bytes count runs → number_in 8 bytes ≡ count
count_spelled bytes count runs spells = ap (number_in 8) spells.spelled ∙ from_le_bytes-to_le_bytes_8 count spells.counted

runs_number : (bytes : List ℕ) (count : ℕ) (runs : List Run) → SpellsRuns bytes count runs → number_in 16 bytes ≡ length runs
runs_number bytes count runs spells = ap (number_in 16) spells.spelled ∙ from_le_bytes-to_le_bytes_8 (length runs) spells.runs_counted

pub head_spelled : (bytes : List ℕ) (count : ℕ) (runs : List Run) → SpellsRuns bytes count runs → HasHead bytes
head_spelled bytes count runs spells = record {
  long = omega (arith, ap length spells.spelled, length-pack count runs);
  lettered = ap (take 8) spells.spelled;
}

pub length_spelled : (bytes : List ℕ) (count : ℕ) (runs : List Run) → SpellsRuns bytes count runs → HasLength bytes
length_spelled bytes count runs spells =
    let many : number_in 16 bytes ≡ length runs = runs_number bytes count runs spells in
    let len : length bytes ≡ 24 + 64 * length runs = ap length spells.spelled ∙ length-pack count runs in
    omega (arith, many, len)

-- what bytes spell is what they have
pub runs_spelled : (bytes : List ℕ) (count : ℕ) (runs : List Run) → SpellsRuns bytes count runs → runs ≡ runs_in (number_in 16 bytes) bytes
runs_spelled bytes count runs spells =
    let all : List ℕ = flat_map run_spelling runs in
    let rest : drop 24 bytes ≡ all = ap (drop 24) spells.spelled in
    let whole : records_in run_in 64 (length runs) all ≡ runs =
    ap (records_in run_in 64 (length runs)) (sym (append-nil all)) ∙ records_again runs_format runs [] spells.runs_fit in
    sym (ap (λ (n : ℕ). runs_in n bytes) (runs_number bytes count runs spells) ∙ ap (records_in run_in 64 (length runs)) rest ∙ whole)

pub one_spelled : (bytes : List ℕ) (c d : ℕ) (rs qs : List Run) → SpellsRuns bytes c rs → SpellsRuns bytes d qs → (c ≡ d) × (rs ≡ qs)
one_spelled bytes c d rs qs in_a in_b = (
  sym (count_spelled bytes c rs in_a) ∙ count_spelled bytes d qs in_b,
  runs_spelled bytes c rs in_a ∙ sym (runs_spelled bytes d qs in_b),
)

-- bytes that are as long as their count says spell what they have
pub spelled_in : (bytes : List ℕ) → IsBytes bytes → HasHead bytes → HasLength bytes → SpellsRuns bytes (number_in 8 bytes) (runs_in (number_in 16 bytes) bytes)
spelled_in bytes are head len =
    let c : ℕ = number_in 8 bytes in
    let n : ℕ = number_in 16 bytes in
    let runs_long : length (runs_in n bytes) ≡ n = length-records_in run_in 64 n (drop 24 bytes) in
    let first : letters ++ to_le_bytes w64 c ≡ take 16 bytes = grown 8 bytes letters are (omega (arith, head.long)) (sym head.lettered) in
    let both : letters ++ to_le_bytes w64 c ++ to_le_bytes w64 n ≡ take 24 bytes = grown 16 bytes (letters ++ to_le_bytes w64 c) are (omega (arith, head.long)) first in
    let runs_back : flat_map run_spelling (runs_in n bytes) ≡ take (64 * n) (drop 24 bytes) =
    records_back runs_format n (drop 24 bytes) (IsBytes-drop 24 bytes are) (omega (arith, len, length-drop 24 bytes)) in
    let all : letters ++ to_le_bytes w64 c ++ to_le_bytes w64 n ++ flat_map run_spelling (runs_in n bytes) ≡ bytes =
    ap (λ (x : List ℕ). x ++ flat_map run_spelling (runs_in n bytes)) both
    ∙ ap (λ (x : List ℕ). take 24 bytes ++ x) runs_back ∙ sym (take-add 24 (64 * n) bytes) ∙ take_all (24 + 64 * n) bytes (omega (arith, len)) in
    let P : ℕ → Type 0 = λ m. letters ++ to_le_bytes w64 c ++ to_le_bytes w64 m ++ flat_map run_spelling (runs_in n bytes) ≡ bytes in
    record {
      counted = number_fits 8 bytes are;
      runs_counted = omega (arith, runs_long, number_fits 16 bytes are);
      runs_fit = records_fit runs_format n (drop 24 bytes) (IsBytes-drop 24 bytes are);
      spelled = sym (subst P (sym runs_long) all);
    }
