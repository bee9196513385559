use Rattle.std.proofs.Common.{take}
use Rattle.run_core.specs.World.{Dealt}
use Rattle.run_core.proofs.phase.deal.Given as goal

abbrev pub invariant-loop-statement : goal.invariant-loop-statement
invariant-loop-statement l = Dealt (take l.statement-index l.statements) l.fn.players l.players
