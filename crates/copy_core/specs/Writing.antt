-- A source's bytes, written block by block.
use Rattle.std.specs.Prelude.{◌≡◌, ◌≤◌, ◌<◌, ℕ, ◌+◌, Bool, true, false, List, [], ◌∷◌, length, Option, Some, None, Result, Ok, Err}
use Rattle.plfs_types.specs.Counts.{HasRisen}
use Rattle.plfs_types.specs.declared.bytes.TheConstants.{MAX_BLOCK}
use Rattle.plfs_types.specs.declared.limits.TheConstants.{MAX_SIZE}
use Rattle.edge_io.specs.Source.{Given, HandsOver}
use Rattle.mount_model.specs.declared.reply.Refusal.TheVariants.{TooFar}
use Rattle.mount_model.specs.State.{State}
use Rattle.mount_model.specs.declared.stuck.Stuck.{Stuck}
use Rattle.mount_model.specs.declared.stuck.Stuck.TheVariants.{Fault, Refused}
use Rattle.lone_flow.specs.Driving.{BeginsToMake, Makes}
use Rattle.writer_flow.specs.declared.handle.WriterHandle.{WriterHandle}
use Rattle.writer_flow.specs.declared.handle.WriterOut.{WriterOut}
use Rattle.writer_flow.specs.Writing.{write_program}
use Rattle.copy_core.specs.declared.reading.Ending.{Ending}
use Rattle.copy_core.specs.declared.reading.Ending.TheVariants.{AtEnd, Failed, Full}
use Rattle.copy_core.specs.declared.writing.Placing.{Placing}
use Rattle.copy_core.specs.declared.writing.Step.{Step}
use Rattle.copy_core.specs.declared.writing.Step.TheVariants as step
use Rattle.copy_core.specs.declared.writing.Written.{Written}
use Rattle.copy_core.specs.declared.writing.Written.TheVariants as written
use Rattle.copy_core.specs.declared.writing.Wrote.{Wrote}
use Rattle.copy_core.specs.declared.writing.Wrote.TheVariants.{Made, Stopped}
use Rattle.copy_core.specs.Blocks.{AreBlocks, AreFull, IsBlock, joined}
use Rattle.copy_core.specs.Reading.{HasFilled}
use Rattle.edge_io.specs.Source.{IsAtEnd}

-- what the end of a write comes to: the writer, and the place behind the block
abbrev pub wrote_of : ℕ → Option WriterHandle → Result ℕ Stuck → Wrote
wrote_of next handle (Err why) = Stopped why
wrote_of next None (Ok stamp) = Stopped Fault
wrote_of next (Some handle) (Ok stamp) = Made (record { handle = handle; at = next })

-- the calls of the write of this block at this place were made, and that came of it
pub record IsWritten (placing : Placing) (block : List ℕ) (start : State) (told : Wrote) (end : State) : Type 0 where
  pub out : WriterOut
  pub makes : Makes (write_program placing.handle placing.at block) start out end
  pub told_so : told ≡ wrote_of (placing.at + length block) out.handle out.result

-- where there are bytes they were written, else nothing was done
pub data WritesBytes (placing : Placing) (bytes : List ℕ) (start : State) (told : Wrote) (end : State) : Type 0 where
  some_bytes : 1 ≤ length bytes → IsWritten placing bytes start told end → WritesBytes placing bytes start told end
  no_bytes : bytes ≡ [] → told ≡ Made placing → end ≡ start → WritesBytes placing bytes start told end

-- the blocks were written, one behind the other
abbrev pub WritesEach : List (List ℕ) → Placing → State → Placing → State → Type 0
WritesEach [] placing start last end = (last ≡ placing) × (end ≡ start)
WritesEach (block ∷ blocks) placing start last end = (next : Placing) × (between : State) × IsWritten placing block start (Made next) between × WritesEach blocks next between last end

-- the source came to its end without a failure, or a read of it failed
abbrev pub EndsAs : Bool → Given → Given → Type 0
EndsAs true old new = IsAtEnd new.left × (new.faults ≡ old.faults)
EndsAs false old new = HasRisen old.faults new.faults

-- ---- one block

-- what a block that was read and written comes to
abbrev pub step_as : Ending → Wrote → Step
step_as ending (Stopped why) = step.Stopped why
step_as Full (Made next) = step.More next
step_as AtEnd (Made next) = step.Last next true
step_as Failed (Made next) = step.Last next false

-- A full block was read and written. Or the last bytes were, behind which the source ended or failed. Or a block was read, whose reading ended so, and its write
-- ended in a trouble.
abbrev pub Steps : Placing → State → Given → Step → State → Given → Type 0
Steps placing start old (step.More next) end new =
    (block : List ℕ) × (length block ≡ MAX_BLOCK) × HandsOver block old.left new.left × (new.faults ≡ old.faults) × IsWritten placing block start (Made next) end
Steps placing start old (step.Last last is_whole) end new =
    (bytes : List ℕ) × (length bytes < MAX_BLOCK) × HandsOver bytes old.left new.left × EndsAs is_whole old new × WritesBytes placing bytes start (Made last) end
Steps placing start old (step.Stopped why) end new =
    (block : List ℕ) × (ending : Ending) × IsBlock block × HasFilled block ending old new × IsWritten placing block start (Stopped why) end

-- Memory was refused before anything was read, or in the write of a block, whose reading ended so.
pub data BeginsStep (placing : Placing) (start : State) (old : Given) (end : State) (new : Given) : Type 0 where
  to_read : new ≡ old → end ≡ start → BeginsStep placing start old end new
  to_write : (block : List ℕ) (ending : Ending) → IsBlock block → HasFilled block ending old new → BeginsToMake (write_program placing.handle placing.at block) start end → BeginsStep placing start old end new

-- ---- all blocks

-- the place of a file's first byte
abbrev pub beginning : WriterHandle → Placing
beginning handle = record { handle = handle; at = 0 }

-- Full blocks were read and written, one behind the other.
pub record HasWritten (handle : WriterHandle) (start : State) (old : Given) (last : Placing) (end : State) (new : Given) : Type 0 where
  pub blocks : List (List ℕ)
  pub full : AreFull blocks
  pub handed : HandsOver (joined blocks) old.left new.left
  pub faults : new.faults ≡ old.faults
  pub count : last.at ≡ length (joined blocks)
  pub writes : WritesEach blocks (beginning handle) start last end

-- Up to where the source ended or failed all its bytes were written, as blocks from the file's first byte on.
pub record WritesWhole (handle : WriterHandle) (is_whole : Bool) (start : State) (old : Given) (last : Placing) (end : State) (new : Given) : Type 0 where
  pub blocks : List (List ℕ)
  pub are : AreBlocks blocks
  pub handed : HandsOver (joined blocks) old.left new.left
  pub ends : EndsAs is_whole old new
  pub count : last.at ≡ length (joined blocks)
  pub writes : WritesEach blocks (beginning handle) start last end

-- Behind full blocks the write of the next one ended in this trouble. Or the source goes on behind the greatest size of a file.
pub data WritesUpTo (handle : WriterHandle) (start : State) (old : Given) (why : Stuck) (end : State) (new : Given) : Type 0 where
  stuck : (last : Placing) (between : State) (mid : Given) → HasWritten handle start old last between mid → Steps last between mid (step.Stopped why) end new → WritesUpTo handle start old why end new
  too_far : (last : Placing) → HasWritten handle start old last end new → MAX_SIZE < last.at → why ≡ Refused TooFar → WritesUpTo handle start old why end new

abbrev pub WritesAll : WriterHandle → State → Given → Written → State → Given → Type 0
WritesAll handle start old (written.All last is_whole) end new = WritesWhole handle is_whole start old last end new
WritesAll handle start old (written.Stopped why) end new = WritesUpTo handle start old why end new

-- Full blocks were read and written, and then memory was refused.
pub record BeginsToWrite (handle : WriterHandle) (start : State) (old : Given) (end : State) (new : Given) : Type 0 where
  pub last : Placing
  pub between : State
  pub mid : Given
  pub written : HasWritten handle start old last between mid
  pub next : BeginsStep last between mid end new
