use Rattle.mount_model.specs.Standing.{IsFresh}
use Rattle.pack_tests.proofs.runs.ended.Given as goal

abbrev pub invariant-loop-flow : goal.invariant-loop-flow
invariant-loop-flow g l = IsFresh (g.F.Flow.standing l.flow)

abbrev pub decreases-loop-flow : goal.decreases-loop-flow
decreases-loop-flow g l = g.F.Flow.left l.flow
