use Rattle.std.proofs.Common.{◌≡◌}
use Rattle.actor_core.specs.Standings.{calls_left}
use Rattle.run_core.specs.Moving.{Advances, Comes}
use Rattle.run_core.proofs.player.Player.go_on.Given as goal
use Rattle.run_core.specs.Players.{waiting_in}

abbrev pub invariant-loop-ask : goal.invariant-loop-ask
invariant-loop-ask g l = record {
  so_far : Advances Comes l.fn.self l.fn.mount l.self l.mount;
  queue : waiting_in l.self ≡ waiting_in l.fn.self;
}

abbrev pub decreases-loop-ask : goal.decreases-loop-ask
decreases-loop-ask g l = calls_left l.self.actor
