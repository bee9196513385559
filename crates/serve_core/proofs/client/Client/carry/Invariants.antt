use Rattle.actor_core.specs.Standings.{calls_left}
use Rattle.serve_core.specs.Working.{Nears}
use Rattle.serve_core.proofs.client.Client.carry.Given as goal

abbrev pub invariant-loop-ask : goal.invariant-loop-ask
invariant-loop-ask g l = record { so_far : Nears l.fn.self l.fn.mount l.self l.mount }

abbrev pub decreases-loop-ask : goal.decreases-loop-ask
decreases-loop-ask g l = calls_left l.self.actor
