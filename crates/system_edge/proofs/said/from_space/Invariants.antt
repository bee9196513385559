use Rattle.std.proofs.Common.{◌≡◌, length}
use Rattle.system_edge.specs.Telling.{from_space}
use Rattle.system_edge.proofs.said.from_space.Given as goal

abbrev pub invariant-loop-first : goal.invariant-loop-first
invariant-loop-first l = from_space l.rest ≡ from_space l.line

abbrev pub decreases-loop-first : goal.decreases-loop-first
decreases-loop-first l = length l.rest
