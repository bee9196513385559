use Rattle.std.proofs.Common.{◌-◌, [], length}
use Rattle.thread_runs.specs.Parts.{dealt, AreParts}
use Rattle.thread_runs.proofs.parts.empty_parts.Given as goal

abbrev pub invariant-loop-alloc : goal.invariant-loop-alloc
invariant-loop-alloc l = AreParts [] (dealt l.parts.items)

abbrev pub decreases-loop-alloc : goal.decreases-loop-alloc
decreases-loop-alloc l = l.count - length l.parts.items
