-- A source that a caller by itself copies into a file.
use Rattle.std.specs.Prelude.{◌≡◌, ℕ, Bool, Result, Ok, Err}
use Rattle.edge_io.specs.Source.{Given}
use Rattle.mount_model.specs.Paths.{Name}
use Rattle.mount_model.specs.State.{State}
use Rattle.mount_model.specs.declared.stuck.Stuck.{Stuck}
use Rattle.lone_flow.specs.Driving.{BeginsToMake, Makes}
use Rattle.writer_flow.specs.declared.handle.WriterHandle.{WriterHandle}
use Rattle.writer_flow.specs.Opening.{open_program}
use Rattle.lone_flow.specs.Settling.{BeginsToSettle, Settles}
use Rattle.copy_core.specs.declared.copying.Copied.{Copied}
use Rattle.copy_core.specs.declared.writing.Placing.{Placing}
use Rattle.copy_core.specs.declared.writing.Written.{Written}
use Rattle.copy_core.specs.declared.writing.Written.TheVariants.{All, Stopped}
use Rattle.copy_core.specs.Clearing.{BeginsToClear, Clears}
use Rattle.copy_core.specs.Writing.{BeginsToWrite, WritesAll}

-- the writer was synced and closed, and that is told where both ended well
abbrev pub EndsAfter : ℕ → Placing → Bool → State → Result Copied Stuck → State → Type 0
EndsAfter writer last is_whole start (Ok copied) end = (copied ≡ record { bytes = last.at; writer = writer; is_whole = is_whole }) × Settles last.handle start (Ok tt) end
EndsAfter writer last is_whole start (Err why) end = Settles last.handle start (Err why) end

-- what comes behind the writes: a sync and a close, but behind a trouble nothing
abbrev pub EndsWrites : ℕ → Written → State → Result Copied Stuck → State → Type 0
EndsWrites writer (All last is_whole) start told end = EndsAfter writer last is_whole start told end
EndsWrites writer (Stopped why) start told end = (told ≡ Err why) × (end ≡ start)

-- the source's bytes were written, and that came of it
pub record CopiesBy (handle : WriterHandle) (start : State) (old : Given) (told : Result Copied Stuck) (end : State) (new : Given) : Type 0 where
  pub written : Written
  pub after : State
  pub writes : WritesAll handle start old written after new
  pub ends : EndsWrites handle.writer written after told end

-- A writer was opened, whose buffer has one entry, and the source's bytes were written by it. Or the opening ended in a trouble, and nothing was read.
pub data CopiesInto (name : Name) (host : ℕ) (start : State) (old : Given) (told : Result Copied Stuck) (end : State) (new : Given) : Type 0 where
  opens : (handle : WriterHandle) (opened : State) → Makes (open_program name host 1) start (Ok handle) opened → CopiesBy handle opened old told end new → CopiesInto name host start old told end new
  opens_none : (why : Stuck) → Makes (open_program name host 1) start (Err why) end → new ≡ old → told ≡ Err why → CopiesInto name host start old told end new

-- Caller 0 by itself found the name free or cut its file to nothing, and copied the source. Or that ended in a trouble, and nothing was read.
pub data Copies (name : Name) (host : ℕ) (over : Bool) (start : State) (old : Given) (told : Result Copied Stuck) (end : State) (new : Given) : Type 0 where
  clears : (cleared : State) → Clears over name start (Ok tt) cleared → CopiesInto name host cleared old told end new → Copies name host over start old told end new
  clears_none : (why : Stuck) → Clears over name start (Err why) end → new ≡ old → told ≡ Err why → Copies name host over start old told end new

-- ---- broken off, since memory was wanting

-- in the writes, or behind them in the sync or the close
pub data BeginsToCopyBy (handle : WriterHandle) (start : State) (old : Given) (end : State) (new : Given) : Type 0 where
  to_write : BeginsToWrite handle start old end new → BeginsToCopyBy handle start old end new
  to_end : (last : Placing) (is_whole : Bool) (after : State) → WritesAll handle start old (All last is_whole) after new → BeginsToSettle last.handle after end → BeginsToCopyBy handle start old end new

-- in the opening of the writer, or behind it
pub data BeginsToCopyInto (name : Name) (host : ℕ) (start : State) (old : Given) (end : State) (new : Given) : Type 0 where
  to_open : BeginsToMake (open_program name host 1) start end → new ≡ old → BeginsToCopyInto name host start old end new
  to_copy : (handle : WriterHandle) (opened : State) → Makes (open_program name host 1) start (Ok handle) opened → BeginsToCopyBy handle opened old end new → BeginsToCopyInto name host start old end new

-- Caller 0 by itself began to copy the source, and was broken off: its calls are a front of those of a copying. Only the last one may have been refused memory.
pub data BeginsToCopy (name : Name) (host : ℕ) (over : Bool) (start : State) (old : Given) (end : State) (new : Given) : Type 0 where
  to_clear : BeginsToClear over name start end → new ≡ old → BeginsToCopy name host over start old end new
  to_go_on : (cleared : State) → Clears over name start (Ok tt) cleared → BeginsToCopyInto name host cleared old end new → BeginsToCopy name host over start old end new
