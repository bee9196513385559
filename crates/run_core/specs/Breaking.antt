-- A play that was broken off, since memory was wanting.
use Rattle.std.specs.Prelude.{◌≡◌, ℕ, ◌⊎◌, Bool, List, [], ◌∷◌, ◌++◌, Some, Result, map, slice_get}
use Rattle.mount_model.specs.Performers.{Performer}
use Rattle.mount_model.specs.InTurns.{WrittenOrder, AllInTurn, AllToEnd, InTurn, PhaseInTurns, ToItsEnd}
use Rattle.mount_model.specs.declared.stuck.Stuck.{Stuck}
use Rattle.index_reader.specs.declared.sharing.Share.{Share}
use Rattle.mount_model.specs.declared.call.Ask.{Ask}
use Rattle.mount_model.specs.declared.reply.Reply.{Reply}
use Rattle.mount_model.specs.State.{State}
use Rattle.mount_model.specs.History.{Event}
use Rattle.script_lang.specs.declared.line.Line.{Line}
use Rattle.script_lang.specs.declared.script.Script.{Script}
use Rattle.mount_core.specs.Memory.{HadMemoryBeforeLast}
use Rattle.run_core.specs.Cast.{cast}
use Rattle.run_core.specs.Leading.{Leads}
use Rattle.run_core.specs.Written.{is_greeting, written_of}

-- an actor of a play
abbrev pub One : Type 0
One = Performer Ask Reply (Result Share Stuck) Line

-- these calls are a front of those with which the actor does something
abbrev pub IsFront : (One → List Event → One → Type 0) → One → List Event → Type 0
IsFront Does one calls = (more : List Event) × (after : One) × Does one (calls ++ more) after

-- it begins to do it: it makes such a front, or no call
abbrev pub BeginsTo : (One → List Event → One → Type 0) → One → List Event → Type 0
BeginsTo Does one calls = (calls ≡ []) ⊎ IsFront Does one calls

-- it passes its next statement in writing, with some line
abbrev pub PassesNext : One → List Event → One → Type 0
PassesNext one calls after = (line : Line) × ToItsEnd line one calls after

-- they do so, with some lines
abbrev pub AllPass : List ℕ → List One → List Event → List One → Type 0
AllPass places old calls new = (lines : List Line) × AllToEnd places lines old calls new

-- The actors of these places do something one after the other, up to one of them, which begins to.
pub record AreBrokenOff (AllDo : List ℕ → List One → List Event → List One → Type 0)
    (Does : One → List Event → One → Type 0) (places : List ℕ) (old : List One) (calls : List Event) : Type 0 where
  pub first : List ℕ
  pub place : ℕ
  pub others : List ℕ
  pub are : places ≡ first ++ place ∷ others
  pub before : List Event
  pub last : List Event
  pub all : calls ≡ before ++ last
  pub now : List One
  pub done : AllDo first old before now
  pub one : One
  pub here : slice_get now place ≡ Some one
  pub begins : BeginsTo Does one last

abbrev pub BreakInTurns : (Ask → Bool) → List ℕ → List One → List Event → Type 0
BreakInTurns is_free places old calls = AreBrokenOff (AllInTurn is_free) (InTurn is_free) places old calls

abbrev pub BreakAtEnds : List ℕ → List One → List Event → Type 0
BreakAtEnds places old calls = AreBrokenOff AllPass PassesNext places old calls

-- a phase is broken off: before its first call, in its turns, or behind them, as what is unfinished is carried to its end
abbrev pub PhaseBreaks : (Ask → Bool) → WrittenOrder → List One → List Event → Type 0
PhaseBreaks is_free written old calls =
    (calls ≡ []) ⊎ BreakInTurns is_free written.turns old calls
    ⊎ ((first : List Event) × (rest : List Event) × (mid : List One)
    × (calls ≡ first ++ rest) × AllInTurn is_free written.turns old first mid × BreakAtEnds written.statements mid rest)

-- The calls are a front of those that the actors make in the order of the written turns: of whole phases, and then of one that is broken off.
abbrev pub BreakInOrder : (Ask → Bool) → List WrittenOrder → List One → List Event → Type 0
BreakInOrder is_free [] actors calls = calls ≡ []
BreakInOrder is_free (written ∷ later) actors calls =
    PhaseBreaks is_free written actors calls
    ⊎ ((block : List Event) × (more : List Event) × (told : List Line) × (next : List One)
    × (calls ≡ block ++ more) × PhaseInTurns is_free written actors block told next × BreakInOrder is_free later next more)

-- A play was broken off: the calls so far, which lead from one state of the mount to the other, are a front of those that the script's actors make in the order
-- of the written turns. Only the last one may have been refused memory.
pub record IsPlayBroken (script : Script) (start end : State) : Type 0 where
  pub history : List Event
  pub leads : Leads start history end
  pub had_memory : HadMemoryBeforeLast history
  pub begins : BreakInOrder is_greeting (map written_of script.phases) (cast script) history
