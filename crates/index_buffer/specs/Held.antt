-- How the pending entries lie in memory: as their bytes, 40 an entry.
use Rattle.std.specs.Prelude.{◌≡◌, ℕ, ◌*◌, ◌/◌, ◌≤◌, List, length, All, vec_capacity}
use Rattle.plfs_types.specs.declared.entries.Entry.{Entry}
use Rattle.plfs_types.specs.declared.limits.TheConstants.{ENTRY_SIZE}
use Rattle.index_entry.specs.Records.{records_in}
use Rattle.index_entry.specs.Spelling.{spelling_all, entry_in}
use Rattle.index_entry.specs.Valid.{IsValidEntry}
use Rattle.index_buffer.specs.Pending.{Pending}
use Rattle.index_buffer.specs.declared.buffer.Buffer.TheInside.{Inside}

-- the entries that these bytes are
unfoldable pub buffered : List ℕ → List Entry
buffered bytes = records_in entry_in ENTRY_SIZE (length bytes / ENTRY_SIZE) bytes

abbrev pub pending_of : Inside → Pending
pending_of buffer = record { entries = buffered buffer.bytes.items; capacity = buffer.capacity }

-- the bytes are those of valid entries, not too many, and there is room for all that may come
pub record IsBuffer (buffer : Inside) : Type 0 where
  pub whole : buffer.bytes.items ≡ spelling_all (buffered buffer.bytes.items)
  pub valid : All IsValidEntry (buffered buffer.bytes.items)
  pub within : length (buffered buffer.bytes.items) ≤ buffer.capacity
  pub room : ENTRY_SIZE * buffer.capacity ≤ vec_capacity buffer.bytes
  pub some : 1 ≤ buffer.capacity
  pub few : buffer.capacity ≤ 4096
