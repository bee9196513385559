use Rattle.std.proofs.Common.{take}
use Rattle.run_core.specs.Written.{turns_of}
use Rattle.run_core.specs.World.{TookTurns}
use Rattle.run_core.proofs.turns.take_turns.Given as goal

abbrev pub invariant-loop-turned : goal.invariant-loop-turned
invariant-loop-turned g l = TookTurns (turns_of (take l.turned-index l.turns)) l.fn.players l.fn.mount l.players l.mount
