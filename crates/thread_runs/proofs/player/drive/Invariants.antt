use Rattle.actor_core.specs.Standings.{progress_of, calls_left}
use Rattle.thread_runs.specs.Driving.{IsDriven}
use Rattle.thread_runs.proofs.player.drive.Given as goal

abbrev pub invariant-loop-ask : goal.invariant-loop-ask
invariant-loop-ask g l = IsDriven l.turn l.fn.pass (progress_of l.fn.actor) l.pass (progress_of l.actor)

abbrev pub decreases-loop-ask : goal.decreases-loop-ask
decreases-loop-ask g l = calls_left l.actor
