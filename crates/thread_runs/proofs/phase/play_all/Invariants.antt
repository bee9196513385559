use Rattle.std.proofs.Common.{List, drop}
use Rattle.script_lang.specs.declared.script.ActorDecl.{ActorDecl}
use Rattle.thread_runs.specs.Running.{Between}
use Rattle.thread_runs.proofs.phase.play_all.Given as goal

abbrev pub invariant-loop-phase : goal.invariant-loop-phase
invariant-loop-phase g l = (actors : List ActorDecl) → Between l.turn actors l.phases l.phases l.fn.main l.fn.players → Between l.turn actors l.phases (drop l.phase-index l.phases) l.main l.players
