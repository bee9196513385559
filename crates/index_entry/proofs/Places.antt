-- Bytes that have a number at each of five places are spelled by the five.
use Rattle.std.proofs.Common.{◌≡◌, ℕ, ◌+◌, List, ◌++◌, length, take, drop, sym, ap, ◌∙◌, arith}
use Rattle.std.specs.Int.{w64, to_le_bytes}
use Rattle.std.proofs.Math.Seq.{take-add}
use Rattle.std.proofs.lemmas.List.{take_all}
use Rattle.plfs_types.specs.declared.entries.Entry.{Entry}
use Rattle.index_entry.specs.Spelling.{spelling}

-- five writes, each behind the numbers before it
pub in_turn : (a b c d e : List ℕ) (entry : Entry) (start : List ℕ) → length e ≡ 40
    → take (0 + 8) a ≡ take 0 start ++ to_le_bytes w64 entry.at
    → take (8 + 8) b ≡ take 8 a ++ to_le_bytes w64 entry.len
    → take (16 + 8) c ≡ take 16 b ++ to_le_bytes w64 entry.physical
    → take (24 + 8) d ≡ take 24 c ++ to_le_bytes w64 entry.stamp
    → take (32 + 8) e ≡ take 32 d ++ to_le_bytes w64 entry.writer
    → e ≡ spelling entry
unfolding spelling
in_turn a b c d e entry start len one two three four five =
    sym (take_all 40 e (omega arith)) ∙ five
    ∙ ap (λ (x : List ℕ). x ++ to_le_bytes w64 entry.writer) (four
    ∙ ap (λ (x : List ℕ). x ++ to_le_bytes w64 entry.stamp) (three
    ∙ ap (λ (x : List ℕ). x ++ to_le_bytes w64 entry.physical) (two
    ∙ ap (λ (x : List ℕ). x ++ to_le_bytes w64 entry.len) one)))

joined : (front text : List ℕ) {number : List ℕ} → number ≡ text → front ++ text ≡ front ++ number
joined front text same = ap (λ (x : List ℕ). front ++ x) (sym same)

-- five reads, one behind the other
pub side_by_side : (bytes : List ℕ) (entry : Entry) → length bytes ≡ 40
    → to_le_bytes w64 entry.at ≡ take 8 (drop 0 bytes)
    → to_le_bytes w64 entry.len ≡ take 8 (drop 8 bytes)
    → to_le_bytes w64 entry.physical ≡ take 8 (drop 16 bytes)
    → to_le_bytes w64 entry.stamp ≡ take 8 (drop 24 bytes)
    → to_le_bytes w64 entry.writer ≡ take 8 (drop 32 bytes)
    → bytes ≡ spelling entry
unfolding spelling
side_by_side bytes entry len one two three four five =
    sym (take_all 40 bytes (omega arith)) ∙ take-add 32 8 bytes ∙ joined (take 32 bytes) _ five
    ∙ ap (λ (x : List ℕ). x ++ to_le_bytes w64 entry.writer) (take-add 24 8 bytes ∙ joined (take 24 bytes) _ four
    ∙ ap (λ (x : List ℕ). x ++ to_le_bytes w64 entry.stamp) (take-add 16 8 bytes ∙ joined (take 16 bytes) _ three
    ∙ ap (λ (x : List ℕ). x ++ to_le_bytes w64 entry.physical) (take-add 8 8 bytes ∙ joined (take 8 bytes) _ two
    ∙ ap (λ (x : List ℕ). x ++ to_le_bytes w64 entry.len) (sym one))))
