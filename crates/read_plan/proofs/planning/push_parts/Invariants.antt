use Rattle.std.proofs.Common.{◌++◌, drop}
use Rattle.read_plan.specs.Ranges.{pieces_in_range}
use Rattle.read_plan.specs.Plan.{filled}
use Rattle.read_plan.proofs.StepLemmas.{Planning}
use Rattle.read_plan.proofs.planning.push_parts.Given as goal

-- the parts so far, and those of the pieces that are left, are those of all
abbrev pub invariant-loop-piece : goal.invariant-loop-piece
invariant-loop-piece l = Planning l.parts (l.fn.parts ++ filled l.at l.until (pieces_in_range l.at l.until l.pieces)) (drop l.piece-index l.pieces) l.at l.until l.from
