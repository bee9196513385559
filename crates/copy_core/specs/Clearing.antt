-- A name of no file, or of one that was cut to nothing.
use Rattle.std.specs.Prelude.{◌≡◌, ℕ, Bool, true, false, Result, Ok, Err}
use Rattle.mount_model.specs.declared.stuck.Stuck.{Stuck}
use Rattle.mount_model.specs.declared.stuck.Stuck.TheVariants as stuck
use Rattle.mount_model.specs.FlowReplies.{Tries, failure}
use Rattle.mount_model.specs.Standing.{Standing, ready}
use Rattle.mount_model.specs.Program.{done, ask}
use Rattle.mount_model.specs.declared.call.Call.{Call}
use Rattle.mount_model.specs.declared.call.Call.TheVariants.{Find}
use Rattle.mount_model.specs.declared.reply.Refusal.TheVariants.{NoRoom, Exists}
use Rattle.mount_model.specs.declared.reply.Reply.{Reply}
use Rattle.mount_model.specs.declared.reply.Reply.TheVariants.{Room, Refused}
use Rattle.mount_model.specs.Paths.{Name}
use Rattle.mount_model.specs.State.{State}
use Rattle.lone_flow.specs.Driving.{BeginsToMake, Makes}
use Rattle.trunc_rename.specs.Truncating.{truncate_program}
use Rattle.copy_core.specs.declared.clearing.FreeFlow.{FreeFlow}
use Rattle.copy_core.specs.declared.clearing.Stage.{Stage}
use Rattle.copy_core.specs.declared.clearing.Stage.TheVariants.{Finding, Ended}

-- that no container has the name is no trouble
abbrev pub cleared_behind : Stuck → Result (Unit {0}) Stuck
cleared_behind (stuck.Refused NoRoom) = Ok tt
cleared_behind why = Err why

-- a name that a container has is refused
abbrev pub free_as : Reply → Result (Unit {0}) Stuck
free_as (Room room) = Err (stuck.Refused Exists)
free_as (Refused why) = cleared_behind (stuck.Refused why)
free_as reply = Err (failure reply)

-- the one call that asks whether a name is free
abbrev pub free_program : Name → Tries (Unit {0})
free_program name = ask (Find name) (λ reply. done (free_as reply))

-- what the end of a truncate comes to
abbrev pub cleared_as : Result ℕ Stuck → Result (Unit {0}) Stuck
cleared_as (Ok stamp) = Ok tt
cleared_as (Err why) = cleared_behind why

-- No container has the name. Or one has it: it is refused, or cut to nothing where it may be written over.
abbrev pub Clears : Bool → Name → State → Result (Unit {0}) Stuck → State → Type 0
Clears false name start told end = Makes (free_program name) start told end
Clears true name start told end = (cut : Result ℕ Stuck) × Makes (truncate_program name 0) start cut end × (told ≡ cleared_as cut)

-- that was broken off
abbrev pub BeginsToClear : Bool → Name → State → State → Type 0
BeginsToClear false name start end = BeginsToMake (free_program name) start end
BeginsToClear true name start end = BeginsToMake (truncate_program name 0) start end

-- ---- where the stages of the asking stand in its program

abbrev pub freeing : Stage → Tries (Unit {0})
freeing (Finding name) = free_program name
freeing (Ended outcome) = done outcome

abbrev pub free_standing : FreeFlow → Standing Call Reply (Result (Unit {0}) Stuck)
free_standing flow = ready (freeing flow.stage)

-- the calls that are left
abbrev pub left_of : Stage → ℕ
left_of (Finding name) = 1
left_of (Ended outcome) = 0

abbrev pub free_left : FreeFlow → ℕ
free_left flow = left_of flow.stage
