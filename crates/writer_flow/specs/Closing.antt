-- The calls of a close: those of a sync, PutMeta, Exit; where PutMeta was asked before: PutMeta, Exit.
use Rattle.std.specs.Prelude.{ℕ, Bool, true, false, Option, Some, Result, Ok, Err}
use Rattle.mount_model.specs.declared.stuck.Stuck.{Stuck}
use Rattle.mount_model.specs.declared.stuck.Stuck.TheVariants as stuck
use Rattle.mount_model.specs.Program.{Program, done, ask, followed_by}
use Rattle.mount_model.specs.declared.call.Call.{Call}
use Rattle.mount_model.specs.declared.call.Call.TheVariants.{PutMeta, Exit}
use Rattle.mount_model.specs.declared.reply.Reply.{Reply}
use Rattle.mount_model.specs.declared.reply.Reply.TheVariants.{Done, Fault}
use Rattle.writer_flow.specs.declared.handle.WriterHandle.{WriterHandle}
use Rattle.writer_flow.specs.declared.handle.WriterOut.{WriterOut}
use Rattle.writer_flow.specs.Handle.{closing_of}
use Rattle.writer_flow.specs.Ending.{gone_with, failed}
use Rattle.writer_flow.specs.Syncing.{sync_program}

-- it is gone where Exit was made, or faulted
abbrev pub if_left : WriterHandle → Reply → Program Call Reply WriterOut
if_left handle Done = done (gone_with (Ok handle.landed))
if_left handle Fault = done (gone_with (Err stuck.Fault))
if_left handle reply = done (failed handle reply)

abbrev pub exits : WriterHandle → Program Call Reply WriterOut
exits handle = ask (Exit handle.writer) (if_left handle)

abbrev pub if_put : WriterHandle → Reply → Program Call Reply WriterOut
if_put handle Done = exits handle
if_put handle reply = done (failed handle reply)

abbrev pub puts_meta : WriterHandle → Program Call Reply WriterOut
puts_meta handle = ask (PutMeta handle.writer) (if_put (closing_of handle))

-- it goes on only where the sync told how much has landed
abbrev pub if_kept : Option WriterHandle → Result ℕ Stuck → Program Call Reply WriterOut
if_kept (Some handle) (Ok landed) = puts_meta handle
if_kept handle result = done (record { handle = handle; result = result })

abbrev pub after_sync : WriterOut → Program Call Reply WriterOut
after_sync out = if_kept out.handle out.result

abbrev pub close_from : Bool → WriterHandle → Program Call Reply WriterOut
close_from true handle = puts_meta handle
close_from false handle = followed_by (sync_program handle) after_sync

abbrev pub close_program : WriterHandle → Program Call Reply WriterOut
close_program handle = close_from handle.closing handle
