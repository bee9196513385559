-- Where the stages of an opening stand in its program.
use Rattle.std.specs.Prelude.{ℕ, Result}
use Rattle.mount_model.specs.declared.stuck.Stuck.{Stuck}
use Rattle.mount_model.specs.Program.{done}
use Rattle.mount_model.specs.Standing.{Standing, ready}
use Rattle.mount_model.specs.declared.call.Call.{Call}
use Rattle.mount_model.specs.declared.reply.Reply.{Reply}
use Rattle.writer_flow.specs.declared.handle.WriterHandle.{WriterHandle}
use Rattle.writer_flow.specs.declared.opening.OpenWrite.{OpenWrite}
use Rattle.writer_flow.specs.declared.opening.Stage.{Stage}
use Rattle.writer_flow.specs.declared.opening.Stage.TheVariants.{Making, Entering, Flooring, Housing, Indexing, Logging, Leaving, Opened}
use Rattle.writer_flow.specs.Opening.{Opening, open_program, enters, finds_floor, makes_hostdir, makes_index, makes_log, leaves}

abbrev pub opening : ℕ → Stage → Opening
opening cap (Making name host) = open_program name host cap
opening cap (Entering room host) = enters room host cap
opening cap (Flooring writer) = finds_floor writer cap
opening cap (Housing writer) = makes_hostdir writer cap
opening cap (Indexing writer) = makes_index writer cap
opening cap (Logging writer) = makes_log writer cap
opening cap (Leaving writer why) = leaves writer why
opening cap (Opened result) = done result

abbrev pub calls_left : Stage → ℕ
calls_left (Making name host) = 7
calls_left (Entering room host) = 6
calls_left (Flooring writer) = 5
calls_left (Housing writer) = 4
calls_left (Indexing writer) = 3
calls_left (Logging writer) = 2
calls_left (Leaving writer why) = 1
calls_left (Opened result) = 0

abbrev pub open_standing : OpenWrite → Standing Call Reply (Result WriterHandle Stuck)
open_standing flow = ready (opening flow.cap flow.stage)

abbrev pub open_left : OpenWrite → ℕ
open_left flow = calls_left flow.stage
