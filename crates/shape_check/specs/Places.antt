-- A room that is checked, and what is shown of its files.
use Rattle.std.specs.Prelude.{◌≡◌, ◌⊎◌, ℕ, ◌≤◌, ◌<◌, ◌^◌, List, [], Option, Some, true, slice_get}
use Rattle.plfs_types.specs.declared.names.Path.{Path}
use Rattle.store_api.specs.declared.tree.Room.{Room}
use Rattle.store_api.specs.declared.tree.Tree.{Tree}
use Rattle.store_api.specs.Room.{has_folder}
use Rattle.store_api.specs.Acts.{Stored}
use Rattle.store_laws.specs.Files.{file_at}
use Rattle.store_laws.specs.Differ.{is_listed}
use Rattle.store_laws.specs.There.{AreNamesOf}
use Rattle.mount_model.specs.Paths.{Name, mark_name}
use Rattle.store_api.specs.Names.{marks_folder}
use Rattle.store_api.specs.Names.{marks_name}
use Rattle.mount_sound.specs.Marks.{IsMarkFile}
use Rattle.tree_laws.specs.Listable.{IsListable}
use Rattle.shape_check.specs.Seeing.{IsSeen}
use Rattle.shape_check.specs.Told.{TellsRoom}

-- the room of this number is that of the marks, in a tree that listings show whole
pub record IsMarksPlace (number : ℕ) (tree : Tree) : Type 0 where
  pub listable : IsListable tree
  pub room : Room
  pub there : slice_get tree.rooms number ≡ Some room
  pub named : room.name ≡ marks_name

-- a mark may have the name
abbrev pub IsMarkName : Name → Type 0
IsMarkName name = (n : ℕ) × (1 ≤ n) × (n < 2 ^ 32) × (name ≡ mark_name n)

-- it is so of the room of marks that the store shows
abbrev pub OfMarks : (Room → Type 0) → ℕ → Stored → Type 0
OfMarks Q number stored = (tree : Tree) → IsSeen stored tree → (place : IsMarksPlace number tree) → Q place.room

-- the file at this path, if it is there, is an empty mark
abbrev pub IsFineMark : Path → Room → Type 0
IsFineMark path room = (bytes : List ℕ) → file_at room path ≡ Some bytes → IsMarkFile path bytes

-- it is so of each of these names
abbrev pub Each : (Name → Room → Type 0) → List Name → Room → Type 0
Each Q names room = (name : Name) → is_listed name names ≡ true → Q name room

-- the file of this name in the folder of marks is so
abbrev pub IsFineFile : Name → Room → Type 0
IsFineFile name = IsFineMark (record { folder = marks_folder; file = name })

-- it is no folder, but that of the marks or the top itself
abbrev pub IsFineFolder : Name → Room → Type 0
IsFineFolder name room = has_folder room name ≡ true → (name ≡ []) ⊎ (name ≡ marks_folder)

-- the entry of the top is no file, and no folder but that of the marks
pub record IsFineTop (name : Name) (room : Room) : Type 0 where
  pub file : IsFineMark (record { folder = []; file = name }) room
  pub folder : IsFineFolder name room

-- the folder of the room that the store shows is there, and these are the names of its entries
abbrev pub ShowsNames : Stored → ℕ → Name → List Name → Type 0
ShowsNames stored number folder names = (tree : Tree) (held : Room) → IsSeen stored tree → slice_get tree.rooms number ≡ Some held → (has_folder held folder ≡ true) × AreNamesOf held folder names

-- the room of marks has this number, or is not there, in a tree that listings show whole
pub record HasMarks (marks : Option ℕ) (tree : Tree) : Type 0 where
  pub listable : IsListable tree
  pub tells : TellsRoom tree marks_name marks
