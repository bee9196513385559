-- Calls that the caller may make in any state.
use Rattle.mount_model.specs.declared.call.Call.{Call}
use Rattle.mount_model.specs.declared.reply.Reply.{Reply}
use Rattle.mount_model.specs.Step.{OwedBy}
use Rattle.mount_sound.specs.Owed.{OwesNothing}
use Rattle.mount_model.specs.Program.{AsksOnly}
use Rattle.mount_model.specs.Standing.{Standing, ready, asked}

-- its numbers are in range, and it owes nothing of the state
abbrev pub IsFreeCall : Call → Type 0
IsFreeCall call = OwedBy call × OwesNothing call

-- a machine before its first call, all of whose calls are free
abbrev pub AsksFreely : {R : Type 0} → Standing Call Reply R → Type 0
AsksFreely (ready program) = AsksOnly IsFreeCall program
AsksFreely (asked k) = ⊥
