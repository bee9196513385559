-- What the players make of a phase.
use Rattle.std.specs.Prelude.{◌≡◌, ℕ, List, [], ◌∷◌, ◌++◌, Some, length, map, set, slice_get}
use Rattle.mount_model.specs.State.{State}
use Rattle.mount_model.specs.History.{Event}
use Rattle.mount_sound.specs.Sound.{IsFine}
use Rattle.mount_model.specs.InTurns.{AllInTurn, AllToEnd, PhaseInTurns, InTurns}
use Rattle.script_lang.specs.declared.line.Line.{Line}
use Rattle.script_lang.specs.declared.script.Numbered.{Numbered}
use Rattle.script_lang.specs.declared.script.Phase.{Phase}
use Rattle.actor_core.specs.Standings.{progress_of}
use Rattle.run_core.specs.declared.player.Player.{Player}
use Rattle.run_core.specs.Written.{is_greeting, written_of}
use Rattle.run_core.specs.Leading.{Leads}
use Rattle.run_core.specs.Breaking.{BreakInOrder}
use Rattle.mount_core.specs.Memory.{HadMemory}
use Rattle.script_lang.specs.declared.script.ActorDecl.{ActorDecl}
use Rattle.run_core.specs.Cast.{cast_from}
use Rattle.run_core.specs.Course.{own}
use Rattle.run_core.specs.Moving.{Passes}
use Rattle.run_core.specs.Players.{playing, resting, IsFit, lines_left, Stands, waiting_in}

-- each player stands so at its place in this state, where these statements are not passed in writing
abbrev pub AllStand : List Numbered → List Player → State → Type 0
AllStand statements players state = (place : ℕ) (player : Player) → slice_get players place ≡ Some player → Stands statements place player state

-- each calls under its place, and may go on from this state
abbrev pub AllFit : List Player → State → Type 0
AllFit players state = (place : ℕ) (player : Player) → slice_get players place ≡ Some player → (player.number ≡ place) × IsFit player state

-- the player at this place does so, and the others are as before
pub record At (place : ℕ) (old : List Player) (Does : Player → Player → Type 0) (new : List Player) : Type 0 where
  pub before : Player
  pub after : Player
  pub here : slice_get old place ≡ Some before
  pub does : Does before after
  pub new_is : new ≡ set old place after

-- it has as many lines left as before
pub record KeepsLines (old new : Player) : Type 0 where
  pub number : new.number ≡ old.number
  pub left : lines_left new ≡ lines_left old

abbrev pub AllKeep : List Player → List Player → Type 0
AllKeep old new = (place : ℕ) (player : Player) → slice_get new place ≡ Some player → (before : Player) × (slice_get old place ≡ Some before) × KeepsLines before player

-- the players took these turns, whatever phases come, by calls that lead from one state to the other
pub record TookTurns (turns : List ℕ) (old : List Player) (start : State) (new : List Player) (end : State) : Type 0 where
  pub events : List Event
  pub leads : Leads start events end
  pub had_memory : HadMemory events
  pub took : (later : List Phase) → AllInTurn is_greeting turns (map (playing later) old) events (map (playing later) new)
  pub keep : AllKeep old new
  pub fit : AllFit new end
  pub long : length new ≡ length old

-- the statements of these players have these lines, and these statements are left
pub record CameToEnd (of : List ℕ) (lines : List Line) (left : List Numbered) (old : List Player) (start : State) (new : List Player) (end : State) : Type 0 where
  pub events : List Event
  pub leads : Leads start events end
  pub had_memory : HadMemory events
  pub came : (later : List Phase) → AllToEnd of lines (map (playing later) old) events (map (playing later) new)
  pub stand : AllStand left new end
  pub long : length new ≡ length old

-- the lines grow by those that the statements have
pub record Tells (of : List ℕ) (left : List Numbered) (lines_old : List Line) (old : List Player) (start : State) (lines_new : List Line) (new : List Player) (end : State) : Type 0 where
  pub told : List Line
  pub lines : lines_new ≡ lines_old ++ told
  pub came : CameToEnd of told left old start new end

-- the player has these statements of the phase behind its others, and is as before
pub record IsDealt (statements : List Numbered) (old new : Player) : Type 0 where
  pub queue : waiting_in new ≡ waiting_in old ++ statements
  pub number : new.number ≡ old.number
  pub progress : progress_of new.actor ≡ progress_of old.actor
  pub ahead : new.ahead.items ≡ old.ahead.items

-- each player has its own of these statements
pub record Dealt (statements : List Numbered) (old new : List Player) : Type 0 where
  pub each : (place : ℕ) (player : Player) → slice_get new place ≡ Some player → (before : Player) × (slice_get old place ≡ Some before) × IsDealt (own place statements) before player
  pub long : length new ≡ length old

-- the phase was played, and the lines grow by its lines
pub record PlayedPhase (phase : Phase) (lines_old : List Line) (old : List Player) (start : State) (lines_new : List Line) (new : List Player) (end : State) : Type 0 where
  pub events : List Event
  pub told : List Line
  pub lines : lines_new ≡ lines_old ++ told
  pub leads : Leads start events end
  pub had_memory : HadMemory events
  pub played : (later : List Phase) → PhaseInTurns is_greeting (written_of phase) (map (resting (phase ∷ later)) old) events told (map (resting later) new)
  pub stand : AllStand [] new end
  pub long : length new ≡ length old

-- these phases were played, with these lines
pub record PlayedSoFar (phases : List Phase) (lines : List Line) (old : List Player) (start : State) (new : List Player) (end : State) : Type 0 where
  pub events : List Event
  pub leads : Leads start events end
  pub had_memory : HadMemory events
  pub played : (later : List Phase) (more : List Event) (others : List Line)
      → InTurns is_greeting (map written_of later) (map (resting later) new) more others
      → InTurns is_greeting (map written_of (phases ++ later)) (map (resting (phases ++ later)) old) (events ++ more) (lines ++ others)
  pub begins : (later : List Phase) (more : List Event)
      → BreakInOrder is_greeting (map written_of later) (map (resting later) new) more
      → BreakInOrder is_greeting (map written_of (phases ++ later)) (map (resting (phases ++ later)) old) (events ++ more)
  pub stand : AllStand [] new end
  pub long : length new ≡ length old

-- the player at this place passes a statement, and its line stands behind the others
pub record PassesAt (place : ℕ) (lines_old : List Line) (old : List Player) (start : State) (lines_new : List Line) (new : List Player) (end : State) : Type 0 where
  pub line : Line
  pub lines : lines_new ≡ lines_old ++ line ∷ []
  pub at : At place old (λ before after. Passes line before start after end) new

-- these are the declared actors, each at its place, which have done nothing yet
pub record IsCast (actors : List ActorDecl) (players : List Player) : Type 0 where
  pub cast : (later : List Phase) → map (resting later) players ≡ cast_from 0 later actors
  pub stand : (state : State) → IsFine state → AllStand [] players state
  pub long : length players ≡ length actors
