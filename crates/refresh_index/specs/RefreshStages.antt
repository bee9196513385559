-- Where the machine of a refresh stands in its program.
use Rattle.std.specs.Prelude.{ℕ}
use Rattle.mount_model.specs.Standing.{Standing}
use Rattle.mount_model.specs.declared.call.Call.{Call}
use Rattle.mount_model.specs.declared.reply.Reply.{Reply}
use Rattle.refresh_index.specs.declared.refreshing.Refresh.{Refresh}
use Rattle.refresh_index.specs.declared.refreshing.RefreshOut.{RefreshOut}
use Rattle.refresh_index.specs.Parts.{parted, parts_left}

unfoldable pub refresh_standing : Refresh → Standing Call Reply RefreshOut
refresh_standing flow = parted flow.part

unfoldable pub refresh_left : Refresh → ℕ
refresh_left flow = parts_left flow.part
