-- A play's lines are what a plain machine says.
use Rattle.std.specs.Prelude.{◌≡◌, ℕ, ◌-◌, ◌^◌, ◌<◌, List, map, Some, slice_get}
use Rattle.std.specs.List.{AllByRecursion}
use Rattle.script_lang.specs.declared.line.Line.{Line}
use Rattle.script_lang.specs.declared.script.Script.{Script}
use Rattle.mount_model.specs.State.{State}
use Rattle.mount_sound.specs.Ledger.{Ledger}
use Rattle.mount_sound.specs.Owed.{IsNotLive}
use Rattle.run_core.specs.Cast.{statements_in}
use Rattle.plain_machine.specs.Machine.{Plain, PlainRoom, PlainWriter}
use Rattle.plain_machine.specs.ByName.{dead}
use Rattle.plain_machine.specs.Running.{TakesAll, nobody}
use Rattle.plain_plays.specs.Apart.{AreApart}
use Rattle.plain_plays.specs.Mirrors.{Mirrors}

-- the machine has what a mount in this state has, where these writes were issued
pub record IsMirrored (state : State) (p : Plain) : Type 0 where
  pub issued : Ledger
  pub mirrors : Mirrors (record { state = state; issued = issued }) p

-- no writer that was left open, and that no actor has, is live in the mount's table
abbrev pub DeadAreOut : State → Plain → Type 0
DeadAreOut state p = (number : ℕ) (room : PlainRoom) → slice_get p.rooms number ≡ Some room → AllByRecursion (λ (w : PlainWriter). IsNotLive state w.id) (dead room)

-- The machine as a play begins. It has what the mount has. No actor has a writer or a reader. Writers that earlier runs left open may be there.
pub record BeginsPlainly (script : Script) (start : State) (p : Plain) : Type 0 where
  pub mirrored : IsMirrored start p
  pub actors : p.actors ≡ map nobody script.actors
  pub dead_out : DeadAreOut start p

-- no call met a fault: the store's count of them is as it was, and could have risen
pub record MetNoFault (start end : State) : Type 0 where
  pub none : end.store.faults ≡ start.store.faults
  pub counted : start.store.faults < 2 ^ 64 - 1

-- The lines are what the machine says of the statements as they are written. It has at the end what the mount has. Where its writers stood in one room each, they do
-- so at the end.
pub record SaysPlainly (script : Script) (p : Plain) (lines : List Line) (end : State) : Type 0 where
  pub last : Plain
  pub takes : TakesAll script.actors p (statements_in script.phases) lines last
  pub mirrored : IsMirrored end last
  pub dead_out : DeadAreOut end last
  pub apart : AreApart p → AreApart last

-- A machine has what the mount has as the play begins, and the lines are what it says.
pub record SaysOfSome (script : Script) (start : State) (lines : List Line) (end : State) : Type 0 where
  pub machine : Plain
  pub begins : BeginsPlainly script start machine
  pub says : SaysPlainly script machine lines end
