-- What a machine ends with.
use Rattle.std.specs.Prelude.{ℕ, Result, Err, Some, None}
use Rattle.mount_model.specs.declared.stuck.Stuck.{Stuck}
use Rattle.mount_model.specs.declared.stuck.Stuck.TheVariants as stuck
use Rattle.mount_model.specs.declared.reply.Reply.{Reply}
use Rattle.mount_model.specs.declared.reply.Reply.TheVariants.{Refused, Damaged}
use Rattle.writer_flow.specs.declared.handle.WriterHandle.{WriterHandle}
use Rattle.writer_flow.specs.declared.handle.WriterOut.{WriterOut}

-- the trouble that a reply is
abbrev pub trouble : Reply → Stuck
trouble (Refused why) = stuck.Refused why
trouble (Damaged folder file) = stuck.Damaged folder file 0
trouble _ = stuck.Fault

-- the writer stays, and this is what came of it
abbrev pub stays_with : WriterHandle → Result ℕ Stuck → WriterOut
stays_with handle result = record { handle = Some handle; result = result }

-- the writer is no longer open, and this is what came of it
abbrev pub gone_with : Result ℕ Stuck → WriterOut
gone_with result = record { handle = None; result = result }

-- the writer stays, and the reply is the trouble
abbrev pub failed : WriterHandle → Reply → WriterOut
failed handle reply = stays_with handle (Err (trouble reply))
