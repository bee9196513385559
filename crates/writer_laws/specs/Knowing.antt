-- What a caller knows of its writer.
use Rattle.std.specs.Prelude.{◌≡◌, ℕ, length, true, false, Some, Ok}
use Rattle.mount_model.specs.declared.row.Row.{Row}
use Rattle.mount_model.specs.Table.{row_of}
use Rattle.mount_model.specs.State.{State}
use Rattle.writer_flow.specs.declared.handle.WriterHandle.{WriterHandle}
use Rattle.writer_flow.specs.declared.handle.WriterOut.{WriterOut}
use Rattle.writer_laws.specs.Counting.{entry_count}

-- this is the row of the caller's writer of this id
pub record HasRow (caller writer : ℕ) (row : Row) (state : State) : Type 0 where
  pub there : row_of writer state.table.writers ≡ Some row
  pub owned : row.owner ≡ caller

-- the writer of the handle is the caller's, and has so many entries in its buffer as the handle says
pub record Knows (caller : ℕ) (handle : WriterHandle) (row : Row) (state : State) : Type 0 where
  pub has : HasRow caller handle.writer row state
  pub pending : handle.pending ≡ length row.pending.entries

-- the caller has the writer, and it has so many entries, landed or in its buffer
pub record HasCount (caller writer count : ℕ) (state : State) : Type 0 where
  pub row : Row
  pub has : HasRow caller writer row state
  pub total : entry_count row ≡ count

-- A machine that began with a handle has ended: the writer stays the caller's, and the new handle tells of its buffer.
pub record KeepsHandle (caller : ℕ) (first : WriterHandle) (out : WriterOut) (state : State) : Type 0 where
  pub handle : WriterHandle
  pub row : Row
  pub kept : out.handle ≡ Some handle
  pub same : handle.writer ≡ first.writer
  pub closing_is : handle.closing ≡ first.closing
  pub knows : Knows caller handle row state

-- A sync has ended so, of a writer with so many entries: these are its number, and have all landed, where it tells one.
pub record IsSynced (caller : ℕ) (first : WriterHandle) (count : ℕ) (out : WriterOut) (state : State) : Type 0 where
  pub handle : WriterHandle
  pub row : Row
  pub kept : out.handle ≡ Some handle
  pub same : handle.writer ≡ first.writer
  pub closing_is : handle.closing ≡ first.closing
  pub knows : Knows caller handle row state
  pub total : entry_count row ≡ count
  pub number : (n : ℕ) → out.result ≡ Ok n → (n ≡ count) × (handle.landed ≡ n) × (row.landed ≡ n)
  -- all of its entries are synced then, and all that it stored
  pub marked : (n : ℕ) → out.result ≡ Ok n → (row.index_mark ≡ n) × (row.log_mark ≡ row.stored)

-- A writer of so many entries has stayed open after a close: the handle that is left tells of its buffer, and of all its
-- entries once the metadata dropping was asked for.
pub record StaysOpen (caller : ℕ) (first left : WriterHandle) (count : ℕ) (state : State) : Type 0 where
  pub row : Row
  pub same : left.writer ≡ first.writer
  pub knows : Knows caller left row state
  pub total : entry_count row ≡ count
  pub told : left.closing ≡ true → left.landed ≡ count

-- a close has ended so, of a writer with so many entries
pub record IsClosed (caller : ℕ) (first : WriterHandle) (count : ℕ) (out : WriterOut) (state : State) : Type 0 where
  pub stays : (left : WriterHandle) → out.handle ≡ Some left → StaysOpen caller first left count state
  pub number : (n : ℕ) → out.result ≡ Ok n → n ≡ count

-- a writer was opened: it has no entries, and its metadata dropping was not asked for
pub record IsOpened (caller : ℕ) (handle : WriterHandle) (state : State) : Type 0 where
  pub row : Row
  pub knows : Knows caller handle row state
  pub none : entry_count row ≡ 0
  pub fresh : handle.closing ≡ false
