-- What a target of drains has of its source: of each writer a front of what has landed there.
use Rattle.std.specs.Prelude.{◌≡◌, ◌≤◌, ◌*◌, ℕ, List, Some, length, take, slice_get}
use Rattle.plfs_types.specs.Names.{IsLogicalName}
use Rattle.plfs_types.specs.declared.limits.TheConstants.{ENTRY_SIZE}
use Rattle.container_layout.specs.declared.items.Item.TheVariants.{Index, Trunc}
use Rattle.container_layout.specs.Items.{IsItem}
use Rattle.store_api.specs.declared.tree.Room.{Room}
use Rattle.store_api.specs.declared.tree.Tree.{Tree}
use Rattle.store_laws.specs.Files.{file_at}
use Rattle.store_laws.specs.Prefix.{IsPrefix}
use Rattle.index_entry.specs.Spelling.{spelling_all}
use Rattle.mount_model.specs.Paths.{Name, index_path}
use Rattle.mount_sound.specs.Dropping.{IsDropping, bytes_of, log_bytes}
use Rattle.mount_sound.specs.Entries.{logged}
use Rattle.mount_sound.specs.Growing.{IsMore}
use Rattle.mount_sound.specs.Items.{HasItem, HasItemOf}
use Rattle.mount_sound.specs.Ledger.{Written, content, entries_in}
use Rattle.mount_sound.specs.Sound.{IsSoundTree}
use Rattle.reader_laws.specs.Moments.{Dropping, HadTrunc, Moment, Stood, issued_by, landed}

-- An index dropping and a log that are sound for the first of these writes: for all of them whose entry the one has whole,
-- and whose bytes the other has.
pub record IsSoundFront (writer : ℕ) (issued : List Written) (index log : List ℕ) : Type 0 where
  pub count : ℕ
  pub within : count ≤ length issued
  pub dropping : IsDropping writer (take count issued) count (length log) index
  pub logs : IsPrefix (content (take count issued)) log
  pub all : (k : ℕ) → k ≤ length issued → ENTRY_SIZE * k ≤ length index → logged (take k (entries_in issued)) ≤ length log → k ≤ count

-- a writer's dropping, of this host, in the room of this number
abbrev pub dropping_in : ℕ → ℕ → ℕ → Dropping
dropping_in number host writer = record { room = number; host = host; writer = writer }

-- the bytes of the writer's entries that have landed at the source
abbrev pub index_there : Moment → Dropping → List ℕ
index_there source d = spelling_all (take (landed source d) (entries_in (issued_by source d)))

-- the bytes of their writes
abbrev pub log_there : Moment → Dropping → List ℕ
log_there source d = content (take (landed source d) (issued_by source d))

-- The target's files of this writer are the first bytes of those, where a missing file counts as empty.
pub record IsFrontOf (source : Moment) (number : ℕ) (room : Room) (host writer : ℕ) : Type 0 where
  pub index : IsPrefix (bytes_of (file_at room (index_path host writer))) (index_there source (dropping_in number host writer))
  pub log : IsPrefix (log_bytes room host writer) (log_there source (dropping_in number host writer))

-- The target's container came from drains of this one room of the source alone: each writer there stands at the source with
-- the same host, its files are fronts, and each truncate there is one of the source's.
pub record IsDrainedFrom (source : Moment) (number : ℕ) (room : Room) : Type 0 where
  pub hosts : (host writer : ℕ) → HasItemOf room host writer → Stood source (dropping_in number host writer)
  pub fronts : (host writer : ℕ) → IsItem (Index host writer) → IsFrontOf source number room host writer
  pub truncates : (stamp size : ℕ) (bytes : List ℕ) → HasItem room (Trunc stamp size) bytes → HadTrunc source number stamp size

-- A target of drains from the source's room of this number into the container of this name: a sound tree, in which that
-- container, where it is there, came from drains of that room alone.
pub record IsTarget (source : Moment) (number : ℕ) (name : Name) (tree : Tree) : Type 0 where
  pub logical : IsLogicalName name
  pub sound : IsSoundTree tree
  pub drained : (n : ℕ) (room : Room) → slice_get tree.rooms n ≡ Some room → room.name ≡ name → IsDrainedFrom source number room
  -- what its writers issued, by the tree's own account, are the first writes of the source's, with their bytes
  pub first : (n : ℕ) (room : Room) → slice_get tree.rooms n ≡ Some room → room.name ≡ name → (writer : ℕ) → IsMore (sound.issued n writer) (source.issued number writer)
