use Rattle.mount_model.specs.Standing.{IsFresh}
use Rattle.flow_tests.proofs.newest.drive.Given as goal

abbrev pub invariant-loop-call : goal.invariant-loop-call
invariant-loop-call g l = IsFresh (g.F.Flow.standing l.flow)

abbrev pub decreases-loop-call : goal.decreases-loop-call
decreases-loop-call g l = g.F.Flow.left l.flow
