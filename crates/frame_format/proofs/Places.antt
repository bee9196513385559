-- Four numbers that are put one behind the other.
use Rattle.std.proofs.Common.{◌≡◌, ℕ, ◌+◌, List, ◌++◌, length, take, sym, ap, ◌∙◌, arith}
use Rattle.std.specs.Int.{w64, to_le_bytes}
use Rattle.std.proofs.lemmas.List.{take_all}
use Rattle.frame_format.specs.declared.answering.Answer.{Answer}
use Rattle.frame_format.specs.Telling.{answer_head}

pub in_turn : (a b c d : List ℕ) (answer : Answer) (start : List ℕ) → length d ≡ 32
    → take (0 + 8) a ≡ take 0 start ++ to_le_bytes w64 answer.number
    → take (8 + 8) b ≡ take 8 a ++ to_le_bytes w64 answer.status
    → take (16 + 8) c ≡ take 16 b ++ to_le_bytes w64 answer.value
    → take (24 + 8) d ≡ take 24 c ++ to_le_bytes w64 (length answer.payload)
    → d ≡ answer_head answer
unfolding answer_head
in_turn a b c d answer start len one two three four =
    sym (take_all 32 d (omega arith)) ∙ four
    ∙ ap (λ (x : List ℕ). x ++ to_le_bytes w64 (length answer.payload)) (three
    ∙ ap (λ (x : List ℕ). x ++ to_le_bytes w64 answer.value) (two
    ∙ ap (λ (x : List ℕ). x ++ to_le_bytes w64 answer.status) one))
