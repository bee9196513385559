-- Where the stages of a write stand in its program.
use Rattle.std.specs.Prelude.{◌≡◌, ℕ}
use Rattle.mount_model.specs.Program.{done}
use Rattle.mount_model.specs.Standing.{Standing, ready, asked}
use Rattle.mount_model.specs.declared.call.Call.{Call}
use Rattle.mount_model.specs.declared.reply.Reply.{Reply}
use Rattle.writer_flow.specs.declared.handle.WriterHandle.{WriterHandle}
use Rattle.writer_flow.specs.declared.handle.WriterOut.{WriterOut}
use Rattle.writer_flow.specs.declared.writing.WriteFlow.{WriteFlow}
use Rattle.writer_flow.specs.declared.writing.Stage.{Stage}
use Rattle.writer_flow.specs.declared.writing.Stage.TheVariants.{Flushing, Ready, Sent, Ended}
use Rattle.writer_flow.specs.Handle.{flushed_of}
use Rattle.writer_flow.specs.Writing.{flush_then, writes, if_wrote}

abbrev pub writing : ℕ → Stage → Standing Call Reply WriterOut
writing at (Flushing handle block) = ready (flush_then handle (writes (flushed_of handle) at block))
writing at (Ready handle block) = ready (writes handle at block)
writing at (Sent handle) = asked (if_wrote handle)
writing at (Ended out) = ready (done out)

abbrev pub calls_left : Stage → ℕ
calls_left (Flushing handle block) = 2
calls_left (Ready handle block) = 1
calls_left (Sent handle) = 1
calls_left (Ended out) = 0

abbrev pub write_standing : WriteFlow → Standing Call Reply WriterOut
write_standing flow = writing flow.at flow.stage

abbrev pub write_left : WriteFlow → ℕ
write_left flow = calls_left flow.stage

-- it has the writer's block, which is to be handed over
abbrev pub HasBlock : WriterHandle → Stage → Type 0
HasBlock handle (Ready other block) = handle ≡ other
HasBlock handle _ = ⊥
