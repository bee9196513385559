use Rattle.std.proofs.Common.{take}
use Rattle.run_core.specs.World.{PlayedSoFar}
use Rattle.run_core.proofs.phase.play_all.Given as goal

abbrev pub invariant-loop-phase : goal.invariant-loop-phase
invariant-loop-phase g l = PlayedSoFar (take l.phase-index l.phases) l.lines l.fn.players l.fn.mount l.players l.mount
