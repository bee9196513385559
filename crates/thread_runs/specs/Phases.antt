-- Actors between phases, and in one.
use Rattle.std.specs.Prelude.{◌≡◌, ◌+◌, ◌^◌, ℕ, List, [], ◌∷◌, ◌++◌, true, false}
use Rattle.std.specs.List.{All}
use Rattle.turn_object.specs.History.{StartsWith}
use Rattle.turn_object.specs.Front.{IsLegalFront}
use Rattle.turn_object.specs.Shares.{longer}
use Rattle.turn_object.specs.Pass.{start_of, front, parts_of, mine_of, seen_of, ended_of, IsPassOf}
use Rattle.mount_model.specs.Process.{ends}
use Rattle.mount_model.specs.Players.{player, HasPlayed}
use Rattle.mount_model.specs.declared.call.Ask.{Ask}
use Rattle.mount_model.specs.State.{State}
use Rattle.mount_model.specs.Step.{IsStep}
use Rattle.mount_model.specs.History.{Event}
use Rattle.mount_sound.specs.Owed.{Permits}
use Rattle.script_lang.specs.declared.line.Line.{Line}
use Rattle.script_lang.specs.declared.script.ActorDecl.{ActorDecl}
use Rattle.script_lang.specs.declared.script.Phase.{Phase}
use Rattle.actor_core.specs.declared.kept.Kept.{Kept}
use Rattle.actor_core.specs.Progress.{idle}
use Rattle.actor_core.specs.Standings.{progress_of}
use Rattle.run_core.specs.Course.{course_of, through}
use Rattle.mount_core.specs.Memory.{HadMemory, HadMemoryBeforeLast}
use Rattle.share_workers.specs.Passes.{ThePass, TheTurn}
use Rattle.thread_runs.specs.Reaching.{Reach, up_to}
use Rattle.thread_runs.specs.Going.{EndedWithMemory, EndedWithMemoryBeforeLast}
use Rattle.thread_runs.specs.Runners.{Runner}

-- the pass has its calls, and the callers that ended, and so many parts more and fewer
pub record Keeps (more fewer : ℕ) (old new : ThePass) : Type 0 where
  pub mine : mine_of new ≡ mine_of old
  pub ended : ended_of new ≡ ended_of old
  pub parts : parts_of new + fewer ≡ parts_of old + more

-- only the actor's pass has changed
pub record OnlyPass (old new : Runner) : Type 0 where
  pub place : new.place ≡ old.place
  pub progress : progress_of new.actor ≡ progress_of old.actor
  pub lines : new.told.lines.items ≡ old.told.lines.items
  pub whole : new.whole ≡ old.whole

-- every call is allowed
abbrev pub AnyCall : State → ℕ → Ask → Type 0
AnyCall state caller ask = Unit {0}

-- Up to this history, of which each phase has one block, the actor that is declared so at this place has played the phases but those that are left. It and its
-- workers had memory. However far it comes in what is left, so far it comes in its course. What it may call is told statement by statement, so here every call
-- counts as allowed.
pub record HasActed (start : State) (phases left : List Phase) (history : List Event) (blocks : List (List Event)) (place : ℕ) (declared : ActorDecl) (runner : Runner) : Type 0 where
  pub kept : Kept
  pub rests : progress_of runner.actor ≡ idle kept
  pub at : runner.place ≡ place
  pub played : HasPlayed IsStep AnyCall start history blocks (player (course_of place phases declared) (front runner.pass) (through place left kept) runner.told.lines.items)
  pub as_far : (reach : Reach) → (whole : Reach)
      × HasPlayed IsStep AnyCall start history blocks (player (up_to whole (course_of place phases declared)) (front runner.pass) (up_to reach (through place left kept)) runner.told.lines.items)
  pub memory : HadMemory (mine_of runner.pass)
  pub workers_memory : All EndedWithMemory (ended_of runner.pass)

-- Up to this history it has played its course so far, and does nothing more. Only the last call of each, of it and of its workers, may have been refused memory.
pub record HasBegun (start : State) (phases : List Phase) (history : List Event) (blocks : List (List Event)) (place : ℕ) (declared : ActorDecl) (pass : ThePass) : Type 0 where
  pub reach : Reach
  pub lines : List Line
  pub played : HasPlayed IsStep AnyCall start history blocks (player (up_to reach (course_of place phases declared)) (front pass) ends lines)
  pub memory : HadMemoryBeforeLast (mine_of pass)
  pub workers_memory : All EndedWithMemoryBeforeLast (ended_of pass)

module _ {P : Type 0} (turn : TheTurn P) (phases left : List Phase) (history : List Event) (blocks : List (List Event)) (place : ℕ) (declared : ActorDecl) where
  -- an actor between phases
  pub record IsFollower (runner : Runner) : Type 0 where
    pub pass : IsPassOf turn runner.pass
    pub parts : parts_of runner.pass ≡ 2 ^ 20
    pub known : IsLegalFront IsStep Permits (start_of turn) (front runner.pass)
    pub behind : StartsWith history (seen_of runner.pass)
    pub acted : runner.whole ≡ true → HasActed (start_of turn) phases left history blocks place declared runner
    pub begun : runner.whole ≡ false → HasBegun (start_of turn) phases history blocks place declared runner.pass

  -- an actor that has seen all that was called before the phase
  pub record IsLevel (runner : Runner) : Type 0 where
    pub pass : IsPassOf turn runner.pass
    pub parts : parts_of runner.pass ≡ 2 ^ 20 + 1
    pub known : IsLegalFront IsStep Permits (start_of turn) (front runner.pass)
    pub level : seen_of runner.pass ≡ history
    pub acted : runner.whole ≡ true → HasActed (start_of turn) phases left history blocks place declared runner
    pub begun : runner.whole ≡ false → HasBegun (start_of turn) phases history blocks place declared runner.pass

  -- what the actor will be once it is known what was called in the phase
  abbrev pub WillHaveActed : Runner → Type 0
  WillHaveActed runner = runner.whole ≡ true → (block : List Event) → StartsWith (history ++ block) (seen_of runner.pass)
      → HasActed (start_of turn) phases left (history ++ block) (blocks ++ block ∷ []) place declared runner

  abbrev pub WillHaveBegun : Runner → Type 0
  WillHaveBegun runner = runner.whole ≡ false → (block : List Event) → StartsWith (history ++ block) (seen_of runner.pass)
      → HasBegun (start_of turn) phases (history ++ block) (blocks ++ block ∷ []) place declared runner.pass

  -- an actor that went through the phase
  pub record IsPast (runner : Runner) : Type 0 where
    pub pass : IsPassOf turn runner.pass
    pub parts : parts_of runner.pass ≡ 2 ^ 20 + 1
    pub known : IsLegalFront IsStep Permits (start_of turn) (front runner.pass)
    pub will : WillHaveActed runner
    pub will_begun : WillHaveBegun runner

  -- the same once the main pass has seen what it has
  pub record IsGathered (now : List Event) (runner : Runner) : Type 0 where
    pub pass : IsPassOf turn runner.pass
    pub parts : parts_of runner.pass ≡ 2 ^ 20
    pub known : IsLegalFront IsStep Permits (start_of turn) (front runner.pass)
    pub behind : StartsWith now (seen_of runner.pass)
    pub will : WillHaveActed runner
    pub will_begun : WillHaveBegun runner

module _ {P : Type 0} (turn : TheTurn P) where
  -- an actor that saw what the main pass had seen
  pub record CaughtUp (history : List Event) (old new : Runner) : Type 0 where
    pub pass : IsPassOf turn new.pass
    pub keeps : Keeps 1 0 old.pass new.pass
    pub only : OnlyPass old new
    pub seen : seen_of new.pass ≡ longer (seen_of old.pass) history
    pub more : StartsWith (seen_of new.pass) (seen_of old.pass)
    pub known : IsLegalFront IsStep Permits (start_of turn) (front new.pass)

  -- an actor that told the main pass what it had seen
  pub record HandedOver (old new : Runner) : Type 0 where
    pub pass : IsPassOf turn new.pass
    pub keeps : Keeps 0 1 old.pass new.pass
    pub only : OnlyPass old new
    pub seen : seen_of new.pass ≡ seen_of old.pass
