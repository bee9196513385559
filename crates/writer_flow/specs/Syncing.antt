-- The calls of a sync: SyncLog, Flush where something is pending, SyncIndex.
use Rattle.std.specs.Prelude.{Ok, ◌==◌, if◌then◌else◌}
use Rattle.mount_model.specs.Program.{Program, done, ask}
use Rattle.mount_model.specs.declared.call.Call.{Call}
use Rattle.mount_model.specs.declared.call.Call.TheVariants.{SyncLog, SyncIndex}
use Rattle.mount_model.specs.declared.reply.Reply.{Reply}
use Rattle.mount_model.specs.declared.reply.Reply.TheVariants.{Done, Synced}
use Rattle.writer_flow.specs.declared.handle.WriterHandle.{WriterHandle}
use Rattle.writer_flow.specs.declared.handle.WriterOut.{WriterOut}
use Rattle.writer_flow.specs.Handle.{flushed_of, synced_of}
use Rattle.writer_flow.specs.Ending.{stays_with, failed}
use Rattle.writer_flow.specs.Writing.{flush_then}

abbrev pub if_synced : WriterHandle → Reply → Program Call Reply WriterOut
if_synced handle (Synced landed) = done (stays_with (synced_of landed handle) (Ok landed))
if_synced handle reply = done (failed handle reply)

abbrev pub syncs_index : WriterHandle → Program Call Reply WriterOut
syncs_index handle = ask (SyncIndex handle.writer) (if_synced handle)

abbrev pub flushes_and_syncs : WriterHandle → Program Call Reply WriterOut
flushes_and_syncs handle =
    if handle.pending == 0
    then syncs_index handle
    else flush_then handle (syncs_index (flushed_of handle))

abbrev pub if_log_synced : WriterHandle → Reply → Program Call Reply WriterOut
if_log_synced handle Done = flushes_and_syncs handle
if_log_synced handle reply = done (failed handle reply)

abbrev pub sync_program : WriterHandle → Program Call Reply WriterOut
sync_program handle = ask (SyncLog handle.writer) (if_log_synced handle)
