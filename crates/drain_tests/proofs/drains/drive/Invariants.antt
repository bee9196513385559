use Rattle.drain_copy.specs.Machine.{drain_left, drain_standing}
use Rattle.drain_copy.specs.Standing.{IsReady}
use Rattle.drain_tests.proofs.drains.drive.Given as goal

abbrev pub invariant-loop-call : goal.invariant-loop-call
invariant-loop-call l = IsReady (drain_standing l.drain)

abbrev pub decreases-loop-call : goal.decreases-loop-call
decreases-loop-call l = drain_left l.drain
