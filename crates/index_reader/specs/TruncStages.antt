-- Where the listing of truncates stands in its program.
use Rattle.std.specs.Prelude.{ℕ, List, Result}
use Rattle.plfs_types.specs.declared.entries.Trunc.{Trunc}
use Rattle.mount_model.specs.declared.stuck.Stuck.{Stuck}
use Rattle.mount_model.specs.Program.{done}
use Rattle.mount_model.specs.Standing.{Standing, ready}
use Rattle.mount_model.specs.FlowReplies.{Tries}
use Rattle.mount_model.specs.declared.call.Call.{Call}
use Rattle.mount_model.specs.declared.reply.Reply.{Reply}
use Rattle.index_reader.specs.declared.truncs.TruncRead.{TruncRead}
use Rattle.index_reader.specs.declared.truncs.Stage.{Stage}
use Rattle.index_reader.specs.declared.truncs.Stage.TheVariants.{Listing, Ended}
use Rattle.index_reader.specs.Truncs.{trunc_program}

abbrev pub list_left : Stage → Tries (List Trunc)
list_left (Listing room) = trunc_program room
list_left (Ended result) = done result

abbrev pub list_calls : Stage → ℕ
list_calls (Listing room) = 1
list_calls (Ended result) = 0

abbrev pub trunc_standing : TruncRead → Standing Call Reply (Result (List Trunc) Stuck)
trunc_standing flow = ready (list_left flow.stage)

abbrev pub trunc_left : TruncRead → ℕ
trunc_left flow = list_calls flow.stage
