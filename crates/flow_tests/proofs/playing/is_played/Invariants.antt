use Rattle.mount_model.specs.Standing.{IsFresh}
use Rattle.flow_tests.proofs.playing.is_played.Given as goal

abbrev pub invariant-loop-row : goal.invariant-loop-row
invariant-loop-row g l = IsFresh (g.F.Flow.standing l.flow)
