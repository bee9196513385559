-- Where the stages of a sync stand in its program.
use Rattle.std.specs.Prelude.{ℕ}
use Rattle.mount_model.specs.Program.{Program, done}
use Rattle.mount_model.specs.Standing.{Standing, ready}
use Rattle.mount_model.specs.declared.call.Call.{Call}
use Rattle.mount_model.specs.declared.reply.Reply.{Reply}
use Rattle.writer_flow.specs.declared.handle.WriterOut.{WriterOut}
use Rattle.writer_flow.specs.declared.syncing.SyncFlow.{SyncFlow}
use Rattle.writer_flow.specs.declared.syncing.Syncing.{Syncing}
use Rattle.writer_flow.specs.declared.syncing.Syncing.TheVariants.{Log, Pending, Index}
use Rattle.writer_flow.specs.declared.syncing.Stage.{Stage}
use Rattle.writer_flow.specs.declared.syncing.Stage.TheVariants.{Underway, Ended}
use Rattle.writer_flow.specs.Handle.{flushed_of}
use Rattle.writer_flow.specs.Writing.{flush_then}
use Rattle.writer_flow.specs.Syncing.{sync_program, syncs_index}

abbrev pub syncing : Syncing → Program Call Reply WriterOut
syncing (Log handle) = sync_program handle
syncing (Pending handle) = flush_then handle (syncs_index (flushed_of handle))
syncing (Index handle) = syncs_index handle

abbrev pub syncs_left : Syncing → ℕ
syncs_left (Log handle) = 3
syncs_left (Pending handle) = 2
syncs_left (Index handle) = 1

abbrev pub sync_stage : Stage → Program Call Reply WriterOut
sync_stage (Underway sync) = syncing sync
sync_stage (Ended out) = done out

abbrev pub stage_left : Stage → ℕ
stage_left (Underway sync) = syncs_left sync
stage_left (Ended out) = 0

abbrev pub sync_standing : SyncFlow → Standing Call Reply WriterOut
sync_standing flow = ready (sync_stage flow.stage)

abbrev pub sync_left : SyncFlow → ℕ
sync_left flow = stage_left flow.stage
