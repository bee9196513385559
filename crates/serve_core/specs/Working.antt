-- How a client comes to its line.
use Rattle.std.specs.Prelude.{◌≡◌, ℕ, List, ◌++◌}
use Rattle.mount_model.specs.State.{State}
use Rattle.mount_model.specs.Step.{IsStep}
use Rattle.mount_model.specs.History.{Event}
use Rattle.mount_sound.specs.Owed.{Permits}
use Rattle.mount_sound.specs.Sound.{IsFine}
use Rattle.mount_core.specs.Memory.{HadMemory}
use Rattle.mount_model.specs.Safe.{IsSafeProcess}
use Rattle.mount_model.specs.Turns.{Finishes}
use Rattle.script_lang.specs.declared.line.Line.{Line}
use Rattle.actor_core.specs.declared.kept.Kept.{Kept}
use Rattle.actor_core.specs.Progress.{Progress, going}
use Rattle.actor_core.specs.Standings.{progress_of}
use Rattle.run_core.specs.Coming.{ComesToLine}
use Rattle.run_core.specs.Broken.{BreaksOff}
use Rattle.run_core.specs.Course.{Course}
use Rattle.run_core.specs.Leading.{Leads}
use Rattle.run_core.specs.Working.{rest_of}
use Rattle.serve_core.specs.declared.client.Client.{Client}
use Rattle.serve_core.specs.Making.{Keeps}

-- a statement is in progress; the rest of it comes to its line, and its caller may make each of its calls
abbrev pub IsSafeWork : ℕ → Progress → State → Type 0
IsSafeWork number (going line work) state = ComesToLine work × IsSafeProcess IsStep Permits number work state
IsSafeWork number other state = ⊥

-- the rest of its statement leads to this line, by calls that lead from one state to the other
pub record Carries (old : Client) (start : State) (line : Line) (new : Client) (end : State) : Type 0 where
  pub kept : Kept
  pub keeps : Keeps new kept
  pub number : new.number ≡ old.number
  pub events : List Event
  pub leads : Leads start events end
  pub had_memory : HadMemory events
  pub finishes : (next : Kept → Course) → Finishes old.number (rest_of (progress_of old.actor) next) events line (next kept)

-- it is nearer to its line: what leads there from now on does so behind these calls from the first
pub record Nears (old : Client) (start : State) (now : Client) (mid : State) : Type 0 where
  pub safe : IsSafeWork now.number (progress_of now.actor) mid
  pub fine : IsFine mid
  pub number : now.number ≡ old.number
  pub events : List Event
  pub leads : Leads start events mid
  pub had_memory : HadMemory events
  pub nears : (next : Kept → Course) (more : List Event) (line : Line) (left : Course) → Finishes old.number (rest_of (progress_of now.actor) next) more line left
      → Finishes old.number (rest_of (progress_of old.actor) next) (events ++ more) line left

-- It was broken off: its calls, which lead from one state to the other, are a front of those that lead to its line. Only the last one may have been refused memory.
abbrev pub IsBroken : Client → State → State → Type 0
IsBroken old start end =
    BreaksOff (λ events. (next : Kept → Course) → (more : List Event) × (line : Line) × (left : Course) × Finishes old.number (rest_of (progress_of old.actor) next) (events ++ more) line left) start end
