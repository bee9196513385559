-- Where the stages of a beginning stand in its program.
use Rattle.std.specs.Prelude.{ℕ, Result}
use Rattle.mount_model.specs.declared.stuck.Stuck.{Stuck}
use Rattle.mount_model.specs.Program.{done}
use Rattle.mount_model.specs.Standing.{Standing, ready}
use Rattle.mount_model.specs.declared.call.Call.{Call}
use Rattle.mount_model.specs.declared.reply.Reply.{Reply}
use Rattle.mount_model.specs.FlowReplies.{Tries}
use Rattle.flatten_core.specs.declared.starting.Started.{Started}
use Rattle.flatten_core.specs.declared.starting.StartFlow.{StartFlow}
use Rattle.flatten_core.specs.declared.starting.Stage.{Stage}
use Rattle.flatten_core.specs.declared.starting.Stage.TheVariants.{Finding, Starting, Ended}
use Rattle.flatten_core.specs.Starting.{begins, start_program}

abbrev pub starting : Stage → Tries Started
starting (Finding name) = start_program name
starting (Starting room) = begins room
starting (Ended outcome) = done outcome

abbrev pub starts_left : Stage → ℕ
starts_left (Finding name) = 2
starts_left (Starting room) = 1
starts_left (Ended outcome) = 0

abbrev pub start_standing : StartFlow → Standing Call Reply (Result Started Stuck)
start_standing flow = ready (starting flow.stage)

abbrev pub start_left : StartFlow → ℕ
start_left flow = starts_left flow.stage
