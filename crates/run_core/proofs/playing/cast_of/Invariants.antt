use Rattle.std.proofs.Common.{take}
use Rattle.run_core.specs.World.{IsCast}
use Rattle.run_core.proofs.playing.cast_of.Given as goal

abbrev pub invariant-loop-declared : goal.invariant-loop-declared
invariant-loop-declared l = IsCast (take l.declared-index l.actors) l.players.items
