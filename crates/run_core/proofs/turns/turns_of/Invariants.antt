use Rattle.std.proofs.Common.{replicate}
use Rattle.run_core.specs.World.{TookTurns}
use Rattle.run_core.proofs.turns.turns_of.Given as goal

abbrev pub invariant-loop-i : goal.invariant-loop-i
invariant-loop-i g l = TookTurns (replicate l._i l.turned.actor) l.fn.players l.fn.mount l.players l.mount
