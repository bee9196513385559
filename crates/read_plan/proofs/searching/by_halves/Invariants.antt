use Rattle.std.proofs.Common.{◌-◌}
use Rattle.read_plan.specs.Brackets.{IsBracket}
use Rattle.read_plan.proofs.searching.by_halves.Given as goal

abbrev pub invariant-loop-left : goal.invariant-loop-left
invariant-loop-left l = IsBracket l.pieces l.at l.left

abbrev pub decreases-loop-left : goal.decreases-loop-left
decreases-loop-left l = l.left.high - l.left.low
