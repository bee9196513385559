use Rattle.std.proofs.Common.{take, drop}
use Rattle.run_core.specs.Written.{whose}
use Rattle.run_core.specs.World.{Tells}
use Rattle.run_core.proofs.ending.finish.Given as goal

abbrev pub invariant-loop-statement : goal.invariant-loop-statement
invariant-loop-statement g l = Tells (whose (take l.statement-index l.statements)) (drop l.statement-index l.statements) l.fn.lines l.fn.players l.fn.mount l.lines l.players l.mount
