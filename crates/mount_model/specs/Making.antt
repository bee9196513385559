-- A call that is refused, or makes one act.
use Rattle.std.specs.Prelude.{◌≡◌, ℕ, ◌==◌, Bool, [], Option, Some, None, Result, Ok, Err, MatchOption, if◌then◌else◌}
use Rattle.store_api.specs.declared.step.Answer.{Answer}
use Rattle.store_api.specs.declared.step.Answer.TheVariants as answer
use Rattle.store_api.specs.declared.store.Trouble.{Trouble}
use Rattle.store_api.specs.declared.store.Trouble.TheVariants as trouble
use Rattle.store_api.specs.Step.{Step}
use Rattle.store_api.specs.Acts.{Acts}
use Rattle.mount_model.specs.declared.row.Row.{Row}
use Rattle.mount_model.specs.declared.row.Stage.{Stage}
use Rattle.mount_model.specs.declared.reply.Reply.{Reply}
use Rattle.mount_model.specs.declared.reply.Reply.TheVariants.{Refused, Damaged, Fault, NoMemory}
use Rattle.mount_model.specs.declared.reply.Refusal.{Refusal}
use Rattle.mount_model.specs.declared.reply.Refusal.TheVariants.{NoRoom, NotOpen}
use Rattle.mount_model.specs.Paths.{Name}
use Rattle.mount_model.specs.Table.{writer_of}
use Rattle.mount_model.specs.State.{State, Table}

-- what an act told
abbrev pub Told : Type 0
Told = Result Answer Trouble

-- what a call answers, and the table after it
pub record CallOutcome : Type 0 where
  pub reply : Reply
  pub table : Table

abbrev pub says : Reply → Table → CallOutcome
says reply table = record { reply = reply; table = table }

-- the reply where the call has no line of its own for what its act on this folder and file told
abbrev pub otherwise : Name → Name → Told → Reply
otherwise folder file (Ok answer.NoRoom) = Refused NoRoom
otherwise folder file (Ok answer.NoFolder) = Damaged folder []
otherwise folder file (Ok answer) = Damaged folder file
otherwise folder file (Err trouble.Fault) = Fault
otherwise folder file (Err trouble.NoMemory) = NoMemory

-- the call is refused, and nothing changes
abbrev pub Refuses : Refusal → State → Reply → State → Type 0
Refuses why old reply new = (reply ≡ Refused why) × (new ≡ old)

-- The call makes its act, and what that told decides the reply and the table.
pub record MakesAct (step : Step) (outcome : Told → CallOutcome) (old : State) (reply : Reply) (new : State) : Type 0 where
  pub told : Told
  pub made : Acts step old.store new.store told
  pub answered : reply ≡ (outcome told).reply
  pub after : new ≡ record old { store = new.store; table = (outcome told).table }

-- The call is refused where the caller has no writer of this id in one of these stages.
abbrev pub OnWriter : ℕ → (Stage → Bool) → ℕ → State → Reply → State → (Row → Type 0) → Type 0
OnWriter caller stages id old reply new does = MatchOption (writer_of caller stages id old.table.writers)
    (Refuses NotOpen old reply new)
    does

-- the room of the mounts' marks is no container
abbrev pub room_check : State → ℕ → Option Refusal
room_check old room = if room == old.marks then Some NoRoom else None

-- the first reason, or else the other one
abbrev pub or_reason : Option Refusal → Option Refusal → Option Refusal
or_reason None other = other
or_reason (Some why) other = Some why

-- The call is refused where there is a reason to.
abbrev pub UnlessRefused : Option Refusal → State → Reply → State → Type 0 → Type 0
UnlessRefused check old reply new does = MatchOption check does (λ why. Refuses why old reply new)
