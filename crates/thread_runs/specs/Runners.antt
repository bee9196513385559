-- Actors before and after a phase.
use Rattle.std.specs.Prelude.{◌≡◌, ◌⊎◌, ℕ, ◌<◌, List, [], ◌∷◌, ◌++◌, Some, true, false, All, length, slice_get, slice_index_or}
use Rattle.turn_object.specs.Front.{IsLegalFront}
use Rattle.turn_object.specs.Pass.{start_of, front, parts_of, IsPassOf}
use Rattle.mount_model.specs.Step.{IsStep}
use Rattle.mount_sound.specs.Owed.{Permits}
use Rattle.mount_sound.specs.Sound.{IsFine}
use Rattle.script_lang.specs.declared.line.Line.{Line}
use Rattle.script_lang.specs.declared.script.Numbered.{Numbered}
use Rattle.actor_core.specs.declared.kept.Kept.{Kept}
use Rattle.actor_core.specs.Progress.{idle, IsIdle}
use Rattle.actor_core.specs.Standings.{progress_of}
use Rattle.actor_core.specs.Statements.{work_of}
use Rattle.run_core.specs.Course.{Course, then_line, one_by_one}
use Rattle.run_core.specs.Players.{IsMade}
use Rattle.thread_runs.specs.declared.player.Player.{Player}
use Rattle.thread_runs.specs.declared.player.TheConstants.{TOO_MANY}
use Rattle.share_workers.specs.Passes.{ThePass, TheTurn, IsAfter}
use Rattle.thread_runs.specs.Going.{Goes, Breaks}

-- an actor with its pass
abbrev pub Runner : Type 0
Runner = Player ThePass

-- the actor made this statement, whatever follows it
pub record Acted (s : Numbered) (old new : Runner) : Type 0 where
  pub kept : Kept
  pub left : Kept
  pub was : progress_of old.actor ≡ idle kept
  pub rests : progress_of new.actor ≡ idle left
  pub line : Line
  pub lines : new.told.lines.items ≡ old.told.lines.items ++ line ∷ []
  pub goes : (later : Kept → Course) → Goes (front old.pass) (then_line s.line later (work_of kept s.statement)) (front new.pass) (later left) (line ∷ [])
  pub place : new.place ≡ old.place

-- of this part, it has made the statements but these at its end
pub record ActedSoFar (part rest : List Numbered) (old new : Runner) : Type 0 where
  pub kept : Kept
  pub left : Kept
  pub was : progress_of old.actor ≡ idle kept
  pub rests : progress_of new.actor ≡ idle left
  pub told : List Line
  pub lines : new.told.lines.items ≡ old.told.lines.items ++ told
  pub goes : (later : Kept → Course) → Goes (front old.pass) (one_by_one part later kept) (front new.pass) (one_by_one rest later left) told
  pub place : new.place ≡ old.place

-- it has made all of it
abbrev pub ActedAll : List Numbered → Runner → Runner → Type 0
ActedAll part old new = ActedSoFar part [] old new

-- it was broken off within this part, whatever follows it
pub record BrokenOff (part : List Numbered) (old new : Runner) : Type 0 where
  pub kept : Kept
  pub was : progress_of old.actor ≡ idle kept
  pub breaks : (later : Kept → Course) → Breaks (front old.pass) (one_by_one part later kept) (front new.pass)

module _ {P : Type 0} (turn : TheTurn P) where
  -- calls may be made by the pass, which knows a history from a fine state
  pub record MayAct (pass : ThePass) : Type 0 where
    pub pass_of : IsPassOf turn pass
    pub known : IsLegalFront IsStep Permits (start_of turn) (front pass)
    pub fine : IsFine (start_of turn)
    pub parts : TOO_MANY < parts_of pass

module _ {P : Type 0} (turn : TheTurn P) (parts : List (List Numbered)) where
  -- the actor may play its part of a phase; one that was refused memory has nothing to show
  pub record IsReadyFor (player : Runner) : Type 0 where
    pub may : MayAct turn player.pass
    pub made : (place : ℕ) (part : List Numbered) → slice_get parts place ≡ Some part → All IsMade part
    pub rests : player.whole ≡ true → IsIdle (progress_of player.actor)

  -- it was broken off within its part, or did nothing; one that was refused memory before does nothing
  abbrev pub BrokenOffOrIdle : Runner → Runner → Type 0
  BrokenOffOrIdle old new = (new.pass ≡ old.pass) ⊎ ((old.whole ≡ true) × ((part : List Numbered) × (slice_get parts old.place ≡ Some part) × BrokenOff part old new))

  -- it has played its part, or was refused memory
  pub record Played (old new : Runner) : Type 0 where
    pub after : IsAfter turn old.pass new.pass
    pub played : new.whole ≡ true → (old.whole ≡ true) × ((part : List Numbered) × (slice_get parts old.place ≡ Some part) × ActedAll part old new)
    pub broken : new.whole ≡ false → BrokenOffOrIdle old new

  pub record EachPlayed (old new : List Runner) : Type 0 where
    pub len : length new ≡ length old
    pub each : (k : ℕ) (d : Runner) → k < length old → Played (slice_index_or old k d) (slice_index_or new k d)
