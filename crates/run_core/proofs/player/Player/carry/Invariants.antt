use Rattle.actor_core.specs.Progress.{IsIdle}
use Rattle.actor_core.specs.Standings.{progress_of, calls_left}
use Rattle.run_core.specs.Moving.{Approaches}
use Rattle.run_core.proofs.player.Player.carry.Given as goal

abbrev pub invariant-loop-ask : goal.invariant-loop-ask
invariant-loop-ask g l = record {
  so_far : Approaches l.fn.self l.fn.mount l.self l.mount;
  busy : IsIdle (progress_of l.self.actor) → ⊥;
}

abbrev pub decreases-loop-ask : goal.decreases-loop-ask
decreases-loop-ask g l = calls_left l.self.actor
