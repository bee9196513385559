use Rattle.std.proofs.Common.{length}
use Rattle.run_core.specs.Moving.{Advances, Comes}
use Rattle.run_core.proofs.player.Player.take_turn.Given as goal
use Rattle.run_core.specs.Players.{waiting_in}

abbrev pub invariant-turn : goal.invariant-turn
invariant-turn g l = Advances Comes l.fn.self l.fn.mount l.self l.mount

abbrev pub decreases-turn : goal.decreases-turn
decreases-turn g l = length (waiting_in l.self)
