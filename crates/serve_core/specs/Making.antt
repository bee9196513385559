-- How a client makes a statement.
use Rattle.std.specs.Prelude.{◌≡◌, ◌⊎◌, ℕ, List, [], ◌++◌, Some, slice_get}
use Rattle.mount_model.specs.State.{State}
use Rattle.mount_model.specs.History.{Event}
use Rattle.mount_core.specs.Memory.{HadMemory}
use Rattle.mount_model.specs.Turns.{Finishes}
use Rattle.script_lang.specs.declared.line.Line.{Line}
use Rattle.script_lang.specs.declared.script.Numbered.{Numbered}
use Rattle.actor_core.specs.declared.kept.Kept.{Kept}
use Rattle.actor_core.specs.Progress.{idle, IsIdle}
use Rattle.actor_core.specs.Standings.{progress_of}
use Rattle.actor_core.specs.Statements.{work_of}
use Rattle.run_core.specs.Broken.{BreaksOff}
use Rattle.run_core.specs.Course.{Course, then_line}
use Rattle.run_core.specs.Leading.{Leads}
use Rattle.serve_core.specs.declared.client.Client.{Client}

-- no statement is in progress, and it keeps this
abbrev pub Keeps : Client → Kept → Type 0
Keeps client kept = progress_of client.actor ≡ idle kept

-- none is in progress
abbrev pub IsAtRest : Client → Type 0
IsAtRest client = IsIdle (progress_of client.actor)

-- each calls under its place, and has no statement in progress
abbrev pub AreAtRest : List Client → Type 0
AreAtRest clients = (place : ℕ) (client : Client) → slice_get clients place ≡ Some client → (client.number ≡ place) × IsAtRest client

-- Who calls under this number, and keeps this, makes the statement by calls of its own that lead from one state of the mount to the other, has this line, and
-- keeps that then.
pub record Makes (number : ℕ) (asked : Numbered) (before : Kept) (start : State) (line : Line) (after : Kept) (end : State) : Type 0 where
  pub events : List Event
  pub leads : Leads start events end
  pub had_memory : HadMemory events
  pub finishes : (next : Kept → Course) → Finishes number (then_line asked.line next (work_of before asked.statement)) events line (next after)

-- the client makes it so
pub record MakesSo (asked : Numbered) (old : Client) (start : State) (line : Line) (new : Client) (end : State) : Type 0 where
  pub before : Kept
  pub after : Kept
  pub kept : Keeps old before
  pub keeps : Keeps new after
  pub number : new.number ≡ old.number
  pub makes : Makes old.number asked before start line after end

-- who calls under this number, and keeps this, begins the statement: its calls are a front of those that make it
abbrev pub Begins : ℕ → Numbered → Kept → State → State → Type 0
Begins number asked before start end =
    BreaksOff (λ events. (events ≡ []) ⊎ ((next : Kept → Course) → (more : List Event) × (line : Line) × (left : Course) × Finishes number (then_line asked.line next (work_of before asked.statement)) (events ++ more) line left)) start end
