-- Where the stages of a close stand in its program.
use Rattle.std.specs.Prelude.{ℕ, ◌+◌}
use Rattle.mount_model.specs.Program.{Program, done, followed_by}
use Rattle.mount_model.specs.Standing.{Standing, ready}
use Rattle.mount_model.specs.declared.call.Call.{Call}
use Rattle.mount_model.specs.declared.reply.Reply.{Reply}
use Rattle.writer_flow.specs.declared.handle.WriterOut.{WriterOut}
use Rattle.writer_flow.specs.declared.closing.CloseFlow.{CloseFlow}
use Rattle.writer_flow.specs.declared.closing.Closing.{Closing}
use Rattle.writer_flow.specs.declared.closing.Closing.TheVariants.{First, Putting, Leaving, Ended}
use Rattle.writer_flow.specs.Closing.{after_sync, puts_meta, exits}
use Rattle.writer_flow.specs.SyncingStages.{syncing, syncs_left}

abbrev pub close_stage : Closing → Program Call Reply WriterOut
close_stage (First sync) = followed_by (syncing sync) after_sync
close_stage (Putting handle) = puts_meta handle
close_stage (Leaving handle) = exits handle
close_stage (Ended out) = done out

abbrev pub closes_left : Closing → ℕ
closes_left (First sync) = syncs_left sync + 2
closes_left (Putting handle) = 2
closes_left (Leaving handle) = 1
closes_left (Ended out) = 0

abbrev pub close_standing : CloseFlow → Standing Call Reply WriterOut
close_standing flow = ready (close_stage flow.stage)

abbrev pub close_left : CloseFlow → ℕ
close_left flow = closes_left flow.stage
