-- What a container of a tree holds. A container's number is its place in the tree, which no run changes.
use Rattle.std.specs.Prelude.{◌≡◌, ℕ, ◌/◌, List, [], length, map, Option, Some, None, option_and_then, option_map, slice_get}
use Rattle.plfs_types.specs.declared.entries.Entry.{Entry}
use Rattle.plfs_types.specs.declared.limits.TheConstants.{ENTRY_SIZE}
use Rattle.plain_file.specs.declared.changes.Change.{Change}
use Rattle.plain_file.specs.declared.changes.Change.TheVariants.{Write}
use Rattle.plain_file.specs.File.{slice}
use Rattle.index_entry.specs.Within.{within_log}
use Rattle.container_layout.specs.declared.items.Item.{Item}
use Rattle.container_layout.specs.declared.items.Item.TheVariants.{Index, Log}
use Rattle.container_layout.specs.Paths.{path_of}
use Rattle.store_api.specs.declared.tree.Tree.{Tree}
use Rattle.store_api.specs.Room.{file_in}

-- the bytes of an item's file, where the container has it
abbrev pub bytes_in : Tree → ℕ → Item → Option (List ℕ)
bytes_in tree n item = option_and_then (λ room. option_map (λ file. file.bytes) (file_in room (path_of item).folder (path_of item).file)) (slice_get tree.rooms n)

-- container n has the item
abbrev pub Has : Tree → ℕ → Item → Type 0
Has tree n item = (bytes : List ℕ) × (bytes_in tree n item ≡ Some bytes)

-- the bytes of a file, or none where there is no file
abbrev pub or_none : Option (List ℕ) → List ℕ
or_none None = []
or_none (Some bytes) = bytes

abbrev pub log_in : Tree → ℕ → ℕ → ℕ → List ℕ
log_in tree n host id = or_none (bytes_in tree n (Log host id))

-- the write of an entry, whose bytes the log has
abbrev pub logged_write : List ℕ → Entry → Change
logged_write log entry = Write entry (slice log entry.physical entry.len)

-- the writes of such an index and log that have landed, the oldest first: those of the first whole entries that end within the log
abbrev pub landed_in : List ℕ → List ℕ → List Change
landed_in index log = map (logged_write log) (within_log (length log) (length index / ENTRY_SIZE) index)

-- the writes of a writer that have landed
abbrev pub landed_writes : Tree → ℕ → ℕ → ℕ → List Change
landed_writes tree n host id = landed_in (or_none (bytes_in tree n (Index host id))) (log_in tree n host id)
