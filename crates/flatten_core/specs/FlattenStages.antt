-- Where the machine of a whole flattening stands in its program.
use Rattle.std.specs.Prelude.{ℕ, Result}
use Rattle.mount_model.specs.declared.stuck.Stuck.{Stuck}
use Rattle.mount_model.specs.Standing.{Standing}
use Rattle.mount_model.specs.declared.call.Call.{Call}
use Rattle.mount_model.specs.declared.reply.Reply.{Reply}
use Rattle.flatten_core.specs.declared.flattening.Flattened.{Flattened}
use Rattle.flatten_core.specs.declared.flattening.FlattenFlow.{FlattenFlow}
use Rattle.flatten_core.specs.Parts.{parted, parts_left}

unfoldable pub flatten_standing : FlattenFlow → Standing Call Reply (Result Flattened Stuck)
flatten_standing flow = parted flow.part

unfoldable pub flatten_left : FlattenFlow → ℕ
flatten_left flow = parts_left flow.part
