use Rattle.actor_core.specs.Standings.{calls_left}
use Rattle.run_core.specs.Working.{Nears}
use Rattle.run_core.proofs.lone_reader.LoneReader.carry.Given as goal

abbrev pub invariant-loop-ask : goal.invariant-loop-ask
invariant-loop-ask g l = record { so_far : Nears l.fn.self l.fn.mount l.self l.mount }

abbrev pub decreases-loop-ask : goal.decreases-loop-ask
decreases-loop-ask g l = calls_left l.self.actor
