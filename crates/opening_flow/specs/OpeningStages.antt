-- Where the machine of an opening stands in its program.
use Rattle.std.specs.Prelude.{ℕ, Result}
use Rattle.mount_model.specs.declared.stuck.Stuck.{Stuck}
use Rattle.mount_model.specs.Standing.{Standing}
use Rattle.mount_model.specs.declared.call.Call.{Call}
use Rattle.mount_model.specs.declared.reply.Reply.{Reply}
use Rattle.index_reader.specs.declared.opened.OpenReader.{OpenReader}
use Rattle.opening_flow.specs.declared.opening.Opening.{Opening}
use Rattle.opening_flow.specs.Parts.{parted, parts_left}

unfoldable pub opening_standing : Opening → Standing Call Reply (Result OpenReader Stuck)
opening_standing flow = parted flow.part

unfoldable pub opening_left : Opening → ℕ
opening_left flow = parts_left flow.part
