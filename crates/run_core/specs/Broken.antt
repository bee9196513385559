-- How players are broken off, since memory was wanting.
use Rattle.std.specs.Prelude.{◌≡◌, ℕ, List, [], ◌∷◌, ◌++◌, ◌⊎◌, Some, map, slice_get}
use Rattle.mount_model.specs.State.{State}
use Rattle.mount_model.specs.History.{Event}
use Rattle.mount_model.specs.Performers.{performer}
use Rattle.mount_model.specs.InTurns.{InTurn}
use Rattle.mount_model.specs.Turns.{Finishes}
use Rattle.script_lang.specs.declared.line.Line.{Line}
use Rattle.script_lang.specs.declared.script.Numbered.{Numbered}
use Rattle.script_lang.specs.declared.script.Phase.{Phase}
use Rattle.actor_core.specs.declared.kept.Kept.{Kept}
use Rattle.actor_core.specs.Statements.{work_of}
use Rattle.mount_core.specs.Memory.{HadMemoryBeforeLast}
use Rattle.run_core.specs.declared.player.Player.{Player}
use Rattle.run_core.specs.Course.{Course, then_line}
use Rattle.run_core.specs.Written.{is_greeting, written_of}
use Rattle.run_core.specs.Leading.{Leads}
use Rattle.run_core.specs.Players.{course_left, playing, resting}
use Rattle.run_core.specs.Breaking.{One, IsFront, BeginsTo, PassesNext, AllPass, BreakInTurns, BreakAtEnds, PhaseBreaks, BreakInOrder}

-- These calls lead from one state to the other, only the last one may have been refused memory, and this is so of them.
pub record BreaksOff (Are : List Event → Type 0) (start end : State) : Type 0 where
  pub events : List Event
  pub leads : Leads start events end
  pub had_memory : HadMemoryBeforeLast events
  pub are : Are events

-- the player, whatever follows the pause, as an actor of a play
abbrev pub acting : (Kept → Course) → Player → One
acting later player = performer player.number (course_left player later) player.ahead.items

-- the player begins its turn, or begins to pass its next statement
abbrev pub TurnBreaks : Player → State → State → Type 0
TurnBreaks old start end = BreaksOff (λ events. (later : Kept → Course) → IsFront (InTurn is_greeting) (acting later old) events) start end

abbrev pub PassBreaks : Player → State → State → Type 0
PassBreaks old start end = BreaksOff (λ events. (later : Kept → Course) → BeginsTo PassesNext (acting later old) events) start end

-- the player of this place does so
pub record BreaksAt (Breaks : Player → Type 0) (place : ℕ) (old : List Player) : Type 0 where
  pub player : Player
  pub here : slice_get old place ≡ Some player
  pub breaks : Breaks player

-- the players begin these turns, or to pass these statements, whatever phases come
abbrev pub TurnsBreak : List ℕ → List Player → State → State → Type 0
TurnsBreak turns old start end = BreaksOff (λ events. (later : List Phase) → BreakInTurns is_greeting turns (map (playing later) old) events) start end

abbrev pub EndsBreak : List ℕ → List Player → State → State → Type 0
EndsBreak places old start end = BreaksOff (λ events. (later : List Phase) → BreakAtEnds places (map (playing later) old) events) start end

-- they begin this phase, or these phases
abbrev pub PhaseIsBroken : Phase → List Player → State → State → Type 0
PhaseIsBroken phase old start end = BreaksOff (λ events. (later : List Phase) → PhaseBreaks is_greeting (written_of phase) (map (resting (phase ∷ later)) old) events) start end

abbrev pub PlayIsBroken : List Phase → List Player → State → State → Type 0
PlayIsBroken phases old start end = BreaksOff (λ events. BreakInOrder is_greeting (map written_of phases) (map (resting phases) old) events) start end

-- an actor by itself, which keeps this, begins a statement
abbrev pub OneIsBroken : Numbered → Kept → State → State → Type 0
OneIsBroken statement before start end =
    BreaksOff (λ events. (events ≡ []) ⊎ ((next : Kept → Course) → (more : List Event) × (line : Line) × (left : Course) × Finishes 0 (then_line statement.line next (work_of before statement.statement)) (events ++ more) line left)) start end
