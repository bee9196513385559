-- Six numbers that are put one behind the other.
use Rattle.std.proofs.Common.{◌≡◌, ℕ, ◌+◌, List, ◌++◌, length, take, sym, ap, ◌∙◌, arith}
use Rattle.std.specs.Int.{w64, to_le_bytes}
use Rattle.std.proofs.lemmas.List.{take_all}
use Rattle.frame_format.specs.declared.head.Head.{Head}
use Rattle.frame_format.specs.Heads.{head_bytes}

pub in_turn : (a b c d e f : List ℕ) (head : Head) (start : List ℕ) → length f ≡ 48
    → take (0 + 8) a ≡ take 0 start ++ to_le_bytes w64 head.kind
    → take (8 + 8) b ≡ take 8 a ++ to_le_bytes w64 head.actor
    → take (16 + 8) c ≡ take 16 b ++ to_le_bytes w64 head.number
    → take (24 + 8) d ≡ take 24 c ++ to_le_bytes w64 head.place
    → take (32 + 8) e ≡ take 32 d ++ to_le_bytes w64 head.extent
    → take (40 + 8) f ≡ take 40 e ++ to_le_bytes w64 head.len
    → f ≡ head_bytes head
unfolding head_bytes
in_turn a b c d e f head start len one two three four five six =
    sym (take_all 48 f (omega (arith, len))) ∙ six
    ∙ ap (λ (x : List ℕ). x ++ to_le_bytes w64 head.len) (five
    ∙ ap (λ (x : List ℕ). x ++ to_le_bytes w64 head.extent) (four
    ∙ ap (λ (x : List ℕ). x ++ to_le_bytes w64 head.place) (three
    ∙ ap (λ (x : List ℕ). x ++ to_le_bytes w64 head.number) (two
    ∙ ap (λ (x : List ℕ). x ++ to_le_bytes w64 head.actor) one))))
