-- The calls that begin a flattening: Find, StartFlat.
use Rattle.std.specs.Prelude.{ℕ, Result, Ok, Err}
use Rattle.mount_model.specs.declared.stuck.Stuck.{Stuck}
use Rattle.mount_model.specs.Program.{done, ask}
use Rattle.mount_model.specs.declared.call.Call.TheVariants.{Find, StartFlat}
use Rattle.mount_model.specs.declared.reply.Reply.{Reply}
use Rattle.mount_model.specs.declared.reply.Reply.TheVariants as reply_of
use Rattle.mount_model.specs.Paths.{Name}
use Rattle.mount_model.specs.FlowReplies.{Tries, given, room_in, failure}
use Rattle.flatten_core.specs.declared.starting.Started.{Started}

-- what was begun in this room
abbrev pub begun : ℕ → Reply → Result Started Stuck
begun room (reply_of.Started flat) = Ok (record { room = room; flat = flat })
begun room reply = Err (failure reply)

abbrev pub begins : ℕ → Tries Started
begins room = ask (StartFlat room) (λ reply. done (begun room reply))

abbrev pub start_program : Name → Tries Started
start_program name = ask (Find name) (λ reply. given (room_in reply) (failure reply) begins)
