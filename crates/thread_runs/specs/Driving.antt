-- An actor whose statement is in progress.
use Rattle.std.specs.Prelude.{◌≡◌, ℕ, List, [], ◌∷◌}
use Rattle.turn_object.specs.History.{state_after}
use Rattle.turn_object.specs.Callers.{MayCallAs}
use Rattle.turn_object.specs.Pass.{start_of, front}
use Rattle.mount_model.specs.State.{State}
use Rattle.script_lang.specs.declared.line.Line.{Line}
use Rattle.script_lang.specs.declared.script.Numbered.{Numbered}
use Rattle.actor_core.specs.declared.kept.Kept.{Kept}
use Rattle.actor_core.specs.Progress.{Progress, idle, IsIdle}
use Rattle.run_core.specs.Course.{Course, one_by_one}
use Rattle.run_core.specs.Players.{IsSafeProgress, course_at}
use Rattle.share_workers.specs.Passes.{View, ThePass, TheTurn, IsAfter}
use Rattle.thread_runs.specs.Going.{Goes, Breaks}

-- after all that the pass has seen the actor may make the calls of its statement, under each number under which it may call, and comes to its line
abbrev pub MayGoOn : State → View → Progress → Type 0
MayGoOn start v progress = (caller : ℕ) → MayCallAs v.seen v.mine caller → IsSafeProgress caller progress (state_after start v.seen)

-- the statement in progress was broken off, whatever statements follow it
abbrev pub IsBrokenOff : View → Progress → View → Type 0
IsBrokenOff v progress w = (statements : List Numbered) (later : Kept → Course) → Breaks v (course_at progress statements later) w

-- the statement in progress came to this line, whatever statements follow it
pub record ComesToIts (line : Line) (v : View) (old : Progress) (w : View) (new : Progress) : Type 0 where
  pub kept : Kept
  pub rests : new ≡ idle kept
  pub goes : (statements : List Numbered) (later : Kept → Course) → Goes v (course_at old statements later) w (one_by_one statements later kept) (line ∷ [])

module _ {P : Type 0} (turn : TheTurn P) where
  -- so far within its statement
  pub record IsDriven (first : ThePass) (old : Progress) (now : ThePass) (progress : Progress) : Type 0 where
    pub after : IsAfter turn first now
    pub may : MayGoOn (start_of turn) (front now) progress
    pub busy : IsIdle progress → ⊥
    pub goes : (statements : List Numbered) (later : Kept → Course) → Goes (front first) (course_at old statements later) (front now) (course_at progress statements later) []
