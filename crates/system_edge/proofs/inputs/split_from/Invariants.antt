use Rattle.std.proofs.Common.{◌≢◌, ℕ, List, take}
use Rattle.std.specs.Prelude.{codes}
use Rattle.std.specs.List.{All}
use Rattle.system_edge.proofs.inputs.split_from.Given as goal

-- no word so far
abbrev pub invariant-loop-place : goal.invariant-loop-place
invariant-loop-place l = All (λ (word : List ℕ). word ≢ codes "--from") (take l.place l.words)
