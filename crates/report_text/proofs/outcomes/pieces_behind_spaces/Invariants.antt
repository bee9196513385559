use Rattle.std.proofs.Common.{◌≡◌, ◌++◌, ◌∷◌, take}
use Rattle.std.specs.List.{flat_map}
use Rattle.report_text.specs.Items.{piece_text}
use Rattle.report_text.proofs.outcomes.pieces_behind_spaces.Given as goal

abbrev pub invariant-loop-piece : goal.invariant-loop-piece
invariant-loop-piece l = l.out.items ≡ l.initial.out.items ++ flat_map (λ piece. 32 ∷ piece_text piece) (take l.piece-index l.pieces)
