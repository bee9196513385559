-- What an actor by itself has made on a mount.
use Rattle.std.specs.Prelude.{◌≡◌, List, [], ◌∷◌}
use Rattle.mount_model.specs.State.{State}
use Rattle.mount_model.specs.History.{Event}
use Rattle.mount_model.specs.Turns.{Finishes}
use Rattle.mount_model.specs.Performers.{performer}
use Rattle.mount_model.specs.InTurns.{AllToEnd}
use Rattle.script_lang.specs.declared.line.Line.{Line}
use Rattle.script_lang.specs.declared.script.ActorDecl.{ActorDecl}
use Rattle.script_lang.specs.declared.script.Numbered.{Numbered}
use Rattle.script_lang.specs.declared.script.Script.{Script}
use Rattle.script_lang.specs.declared.script.Statement.{Statement}
use Rattle.script_lang.specs.declared.script.Statement.TheVariants.{Ropen, Read}
use Rattle.actor_core.specs.declared.kept.Kept.{Kept}
use Rattle.actor_core.specs.Progress.{idle, fresh, IsIdle}
use Rattle.actor_core.specs.Standings.{progress_of}
use Rattle.actor_core.specs.Statements.{work_of}
use Rattle.run_core.specs.Course.{Course, then_line, one_by_one}
use Rattle.run_core.specs.Leading.{Leads}
use Rattle.mount_core.specs.Memory.{HadMemory}
use Rattle.run_core.specs.Written.{whose}
use Rattle.run_core.specs.declared.lone_reader.LoneReader.{LoneReader}

-- no statement is in progress, and it keeps this
abbrev pub Keeps : LoneReader → Kept → Type 0
Keeps reader kept = progress_of reader.actor ≡ idle kept

-- none is in progress
abbrev pub IsAtRest : LoneReader → Type 0
IsAtRest reader = IsIdle (progress_of reader.actor)

-- the statement opens a reader, or reads
abbrev pub IsReading : Statement → Type 0
IsReading (Ropen name workers) = Unit {0}
IsReading (Read at len) = Unit {0}
IsReading other = ⊥

-- The actor, which keeps this, makes the statement by calls that lead from one state of the mount to the other, has this line, and keeps that then.
pub record Makes (statement : Numbered) (before : Kept) (start : State) (line : Line) (after : Kept) (end : State) : Type 0 where
  pub events : List Event
  pub leads : Leads start events end
  pub had_memory : HadMemory events
  pub finishes : (next : Kept → Course) → Finishes 0 (then_line statement.line next (work_of before statement.statement)) events line (next after)

-- it has made one statement
abbrev pub HasMadeOne : Numbered → Kept → State → Line → LoneReader → State → Type 0
HasMadeOne statement before start line reader end = (after : Kept) × Keeps reader after × Makes statement before start line after end

-- The actor that is declared so has made these statements since this state of the mount, with these lines, and keeps this now.
pub record HasMade (declared : ActorDecl) (statements : List Numbered) (start : State) (lines : List Line) (kept : Kept) (now : State) : Type 0 where
  pub events : List Event
  pub leads : Leads start events now
  pub had_memory : HadMemory events
  pub made : (next : Kept → Course) → AllToEnd (whose statements) lines (performer 0 (one_by_one statements next (fresh declared.host declared.cap)) [] ∷ []) events (performer 0 (next kept) [] ∷ [])

-- a script of this one actor, which makes these statements in one phase
abbrev pub lone_script : ActorDecl → List Numbered → Script
lone_script declared statements = record { actors = declared ∷ []; phases = record { turns = []; statements = statements } ∷ [] }
