-- How an actor comes to its line.
use Rattle.std.specs.Prelude.{⊤, List, ◌++◌}
use Rattle.mount_model.specs.declared.reply.Reply.{Reply}
use Rattle.mount_model.specs.State.{State}
use Rattle.mount_model.specs.History.{Event}
use Rattle.mount_sound.specs.Owed.{OwesNothing}
use Rattle.mount_model.specs.Process.{ends, pauses, tells, asks, shares}
use Rattle.mount_model.specs.Turns.{Finishes}
use Rattle.script_lang.specs.declared.line.Line.{Line}
use Rattle.actor_core.specs.declared.kept.Kept.{Kept}
use Rattle.actor_core.specs.Work.{Work}
use Rattle.actor_core.specs.Progress.{Progress, going}
use Rattle.actor_core.specs.Standings.{progress_of}
use Rattle.run_core.specs.Course.{Course, then_line}
use Rattle.run_core.specs.Leading.{Leads}
use Rattle.mount_core.specs.Memory.{HadMemory}
use Rattle.run_core.specs.declared.lone_reader.LoneReader.{LoneReader}
use Rattle.run_core.specs.Making.{Keeps}
use Rattle.run_core.specs.Broken.{BreaksOff}

-- whatever is replied, its calls owe nothing of the mount's state, and it comes to its line
abbrev pub IsPlain : Work → Type 0
IsPlain ends = ⊥
IsPlain (pauses work) = ⊥
IsPlain (tells ending work) = ⊤
IsPlain (asks question k) = OwesNothing question.call × ((reply : Reply) → IsPlain (k reply))
IsPlain (shares programs k alone) = IsPlain alone

-- a statement is in progress, and so is its rest
abbrev pub IsPlainProgress : Progress → Type 0
IsPlainProgress (going number work) = IsPlain work
IsPlainProgress other = ⊥

-- the rest of the statement in progress, and what follows
abbrev pub rest_of : Progress → (Kept → Course) → Course
rest_of (going number work) next = then_line number next work
rest_of other next = ends

-- the rest of its statement leads to this line, by calls that lead from one state to the other
pub record Carries (old : LoneReader) (start : State) (line : Line) (new : LoneReader) (end : State) : Type 0 where
  pub kept : Kept
  pub keeps : Keeps new kept
  pub events : List Event
  pub leads : Leads start events end
  pub had_memory : HadMemory events
  pub finishes : (next : Kept → Course) → Finishes 0 (rest_of (progress_of old.actor) next) events line (next kept)

-- it is nearer to its line: what leads there from now on does so behind these calls from the first
pub record Nears (old : LoneReader) (start : State) (now : LoneReader) (mid : State) : Type 0 where
  pub plain : IsPlainProgress (progress_of now.actor)
  pub events : List Event
  pub leads : Leads start events mid
  pub had_memory : HadMemory events
  pub nears : (next : Kept → Course) (more : List Event) (line : Line) (left : Course) → Finishes 0 (rest_of (progress_of now.actor) next) more line left → Finishes 0 (rest_of (progress_of old.actor) next) (events ++ more) line left

-- It was broken off: its calls, which lead from one state to the other, are a front of those that lead to its line. Only the last one may have been refused memory.
abbrev pub IsBroken : LoneReader → State → State → Type 0
IsBroken old start end =
    BreaksOff (λ events. (next : Kept → Course) → (more : List Event) × (line : Line) × (left : Course) × Finishes 0 (rest_of (progress_of old.actor) next) (events ++ more) line left) start end
