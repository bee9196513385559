-- What a run has made.
use Rattle.std.specs.Prelude.{ℕ, List}
use Rattle.turn_object.specs.Callers.{made_by}
use Rattle.mount_model.specs.MakesCalls.{MakesCalls}
use Rattle.mount_model.specs.Performers.{left_of}
use Rattle.mount_model.specs.State.{State}
use Rattle.mount_model.specs.History.{Event}
use Rattle.script_lang.specs.declared.line.Line.{Line}
use Rattle.script_lang.specs.declared.script.ActorDecl.{ActorDecl}
use Rattle.script_lang.specs.declared.script.Phase.{Phase}
use Rattle.run_core.specs.Cast.{cast_from}
use Rattle.run_core.specs.Leading.{Leads}
use Rattle.mount_core.specs.Memory.{HadMemory, HadMemoryBeforeLast}
use Rattle.thread_runs.specs.Reaching.{Reach, each_up_to}

-- Some calls lead from one state to the other, make what the actors and their workers do in these phases, and nobody else calls; and these are the lines of each.
pub record HasRun (actors : List ActorDecl) (phases : List Phase) (start : State) (told : List (List Line)) (end : State) : Type 0 where
  pub history : List Event
  pub leads : Leads start history end
  pub had_memory : HadMemory history
  pub calls : MakesCalls (left_of (cast_from 0 phases actors)) history told

-- Some calls lead from one state to the other. Each of the actors makes those of its course as far as it comes, phase by phase, and nobody else calls. Of each
-- caller, an actor or one of its workers, only the last call may have been refused memory.
pub record BeginsToRun (actors : List ActorDecl) (phases : List Phase) (start end : State) : Type 0 where
  pub history : List Event
  pub leads : Leads start history end
  pub had_memory : (caller : ℕ) → HadMemoryBeforeLast (made_by caller history)
  pub reaches : List Reach
  pub told : List (List Line)
  pub calls : MakesCalls (each_up_to reaches (left_of (cast_from 0 phases actors))) history told
