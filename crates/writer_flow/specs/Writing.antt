-- The calls of a write: Flush where the buffer is full, Write.
use Rattle.std.specs.Prelude.{ℕ, List, Ok, nat_le, if◌then◌else◌}
use Rattle.mount_model.specs.Program.{Program, done, ask}
use Rattle.mount_model.specs.declared.call.Call.{Call}
use Rattle.mount_model.specs.declared.call.Call.TheVariants.{Flush, Write}
use Rattle.mount_model.specs.declared.reply.Reply.{Reply}
use Rattle.mount_model.specs.declared.reply.Reply.TheVariants.{Flushed, Wrote}
use Rattle.writer_flow.specs.declared.handle.WriterHandle.{WriterHandle}
use Rattle.writer_flow.specs.declared.handle.WriterOut.{WriterOut}
use Rattle.writer_flow.specs.Handle.{flushed_of, one_more_of}
use Rattle.writer_flow.specs.Ending.{stays_with, failed}

abbrev pub if_flushed : WriterHandle → Program Call Reply WriterOut → Reply → Program Call Reply WriterOut
if_flushed handle next (Flushed landed) = next
if_flushed handle next reply = done (failed handle reply)

-- a flush, and then this
abbrev pub flush_then : WriterHandle → Program Call Reply WriterOut → Program Call Reply WriterOut
flush_then handle next = ask (Flush handle.writer) (if_flushed handle next)

abbrev pub if_wrote : WriterHandle → Reply → Program Call Reply WriterOut
if_wrote handle (Wrote stamp) = done (stays_with (one_more_of handle) (Ok stamp))
if_wrote handle reply = done (failed handle reply)

abbrev pub writes : WriterHandle → ℕ → List ℕ → Program Call Reply WriterOut
writes handle at block = ask (Write handle.writer at block) (if_wrote handle)

abbrev pub write_program : WriterHandle → ℕ → List ℕ → Program Call Reply WriterOut
write_program handle at block =
    if nat_le handle.cap handle.pending
    then flush_then handle (writes (flushed_of handle) at block)
    else writes handle at block
