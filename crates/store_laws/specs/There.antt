-- What a tree holds in one of its rooms, or lacks.
use Rattle.std.specs.Prelude.{◌≡◌, ◌<◌, ℕ, List, Bool, true, false, Some, None, slice_get, length, is_some, ◌||◌, ◌&&◌}
use Rattle.std.specs.Ordering.{nat_cmp}
use Rattle.std.specs.Cmp.Lexicographic.{slice_cmp}
use Rattle.std.specs.List.Sorted.{IsStrictlySortedBy}
use Rattle.plfs_types.specs.declared.names.Path.{Path}
use Rattle.store_api.specs.declared.tree.Room.{Room}
use Rattle.store_api.specs.declared.tree.Tree.{Tree}
use Rattle.store_api.specs.Step.{Name}
use Rattle.store_api.specs.Room.{is_top, has_folder}
use Rattle.store_laws.specs.Files.{file_at}
use Rattle.store_laws.specs.Differ.{is_listed}

-- there is no room of this number
abbrev pub LacksRoom : Tree → ℕ → Type 0
LacksRoom tree n = slice_get tree.rooms n ≡ None

-- this is the number of the first room of this name
pub record IsRoomOf (tree : Tree) (name : Name) (n : ℕ) : Type 0 where
  pub room : Room
  pub has_room : slice_get tree.rooms n ≡ Some room
  pub named : room.name ≡ name
  pub first : (k : ℕ) (other : Room) → k < n → slice_get tree.rooms k ≡ Some other → other.name ≡ name → ⊥

-- no room has this name
abbrev pub IsFree : Tree → Name → Type 0
IsFree tree name = (n : ℕ) (room : Room) → slice_get tree.rooms n ≡ Some room → room.name ≡ name → ⊥

-- the room has this folder
pub record HoldsFolder (tree : Tree) (n : ℕ) (folder : Name) : Type 0 where
  pub room : Room
  pub has_room : slice_get tree.rooms n ≡ Some room
  pub there : has_folder room folder ≡ true

-- the room has no such folder
pub record LacksFolder (tree : Tree) (n : ℕ) (folder : Name) : Type 0 where
  pub room : Room
  pub has_room : slice_get tree.rooms n ≡ Some room
  pub none : has_folder room folder ≡ false

-- the room has a file at this path, with these bytes
pub record HoldsFile (tree : Tree) (n : ℕ) (path : Path) : Type 0 where
  pub room : Room
  pub bytes : List ℕ
  pub has_room : slice_get tree.rooms n ≡ Some room
  pub folder : has_folder room path.folder ≡ true
  pub there : file_at room path ≡ Some bytes

-- the room has the folder, and no file at this path
pub record LacksFile (tree : Tree) (n : ℕ) (path : Path) : Type 0 where
  pub room : Room
  pub has_room : slice_get tree.rooms n ≡ Some room
  pub folder : has_folder room path.folder ≡ true
  pub none : file_at room path ≡ None

-- the file at this path ends before this place
abbrev pub EndsBefore : Tree → ℕ → Path → ℕ → Type 0
EndsBefore tree n path at = (held : HoldsFile tree n path) × (length held.bytes < at)

-- whether the folder has a file of this name, or is the top and there is a folder of this name
abbrev pub has_entry : Room → Name → Name → Bool
has_entry room folder name = is_some (file_at room (record { folder = folder; file = name })) || (is_top folder && is_listed name room.folders)

-- the names rise strictly in byte order
abbrev pub AreInOrder : List Name → Type 0
AreInOrder names = IsStrictlySortedBy (slice_cmp nat_cmp) names

-- these are the names of the folder's entries, each once and in order
pub record AreNamesOf (room : Room) (folder : Name) (names : List Name) : Type 0 where
  pub exactly : (name : Name) → is_listed name names ≡ has_entry room folder name
  pub ordered : AreInOrder names

-- the folder is there, and these are the names of its entries
pub record ListsFolder (tree : Tree) (n : ℕ) (folder : Name) (names : List Name) : Type 0 where
  pub room : Room
  pub has_room : slice_get tree.rooms n ≡ Some room
  pub there : has_folder room folder ≡ true
  pub entries : AreNamesOf room folder names
