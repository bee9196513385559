-- What can be checked of a tree, room by room and writer by writer, with no ledger of who wrote what.
use Rattle.std.specs.Prelude.{◌≡◌, ◌≤◌, ℕ, List, length, Some, None, slice_get}
use Rattle.plfs_types.specs.declared.limits.TheConstants.{ENTRY_SIZE, MAX_LOG}
use Rattle.plfs_types.specs.declared.entries.Entry.{Entry}
use Rattle.index_entry.specs.Records.{IsBytes, records_in}
use Rattle.index_entry.specs.Spelling.{entry_in}
use Rattle.container_layout.specs.declared.items.Item.TheVariants.{Meta, Trunc}
use Rattle.store_api.specs.declared.tree.Room.{Room}
use Rattle.store_api.specs.declared.tree.Tree.{Tree}
use Rattle.store_laws.specs.Files.{file_at, kept_at}
use Rattle.mount_model.specs.Paths.{open_path, index_path, installed_item, installed_of}
use Rattle.mount_model.specs.declared.row.Making.{Making}
use Rattle.mount_sound.specs.Marks.{IsOfMark}
use Rattle.mount_sound.specs.Shape.{IsShapedTree}
use Rattle.mount_sound.specs.Entries.{AreEntriesOf, logged}
use Rattle.mount_sound.specs.Dropping.{bytes_of, IsKeptWhole, IsToldOf, AreBeside}
use Rattle.mount_sound.specs.Flats.{IsRightFor}
use Rattle.mount_sound.specs.Items.{HasItem, HasMeta, HasItemOf}
use Rattle.mount_sound.specs.Landed.{whole}
use Rattle.mount_sound.specs.Sound.{TruncatesDiffer}
use Rattle.mount_sound.specs.There.{landed_entries, landed_in}

-- the whole entries that an index dropping spells, valid or not
abbrev pub whole_entries : List ℕ → List Entry
whole_entries index = records_in entry_in ENTRY_SIZE (whole index) index

-- Each of its whole entries may follow the one before, and together they have no more bytes than a log. What is behind
-- them is less than one entry.
pub record IsCheckedDropping (writer : ℕ) (index : List ℕ) : Type 0 where
  pub in_order : AreEntriesOf writer 0 0 (whole_entries index)
  pub small : logged (whole_entries index) ≤ MAX_LOG

-- what is checked of a writer that has an item of this host
pub record IsCheckedWriter (room : Room) (host writer : ℕ) : Type 0 where
  -- it has items of no other host
  pub alone : (other : ℕ) → HasItemOf room other writer → other ≡ host
  -- a missing index dropping counts as empty
  pub dropping : IsCheckedDropping writer (bytes_of (file_at room (index_path host writer)))
  -- where entries have landed and it isn't among the open writers, a metadata dropping is there
  pub left : file_at room (open_path host writer) ≡ None → 1 ≤ landed_in room host writer → HasMeta room host writer
  -- each metadata dropping tells of the entries that have landed
  pub told : (last bytes stamp : ℕ) (content : List ℕ) → HasItem room (Meta last bytes stamp host writer) content → IsToldOf last bytes stamp (landed_entries room host writer)
  -- where there is one, the index dropping is just these entries, and all of them and of their bytes are kept
  pub settled : HasMeta room host writer → IsKeptWhole room host writer (landed_entries room host writer)
  -- no truncate is between two of them
  pub beside : (stamp size : ℕ) (content : List ℕ) → HasItem room (Trunc stamp size) content → AreBeside stamp (landed_entries room host writer)

-- the room's writers, truncates, and flattened and packed indices
pub record IsCheckedRoom (room : Room) : Type 0 where
  pub writers : (host writer : ℕ) → HasItemOf room host writer → IsCheckedWriter room host writer
  pub truncates : TruncatesDiffer room
  pub flats : (makes : Making) (id : ℕ) (bytes : List ℕ) → HasItem room (installed_item makes id) bytes → IsRightFor room makes bytes × (length bytes ≤ kept_at room (installed_of makes id))

-- the tree has the right shape, and each room is so
pub record IsCheckedTree (tree : Tree) : Type 0 where
  pub shaped : IsShapedTree (IsOfMark tree) tree
  pub rooms : (number : ℕ) (room : Room) → slice_get tree.rooms number ≡ Some room → IsCheckedRoom room

-- its index droppings hold bytes, and no other numbers
abbrev pub HoldsBytes : Tree → Type 0
HoldsBytes tree = (number : ℕ) (room : Room) → slice_get tree.rooms number ≡ Some room
    → (host writer : ℕ) (bytes : List ℕ) → file_at room (index_path host writer) ≡ Some bytes → IsBytes bytes
