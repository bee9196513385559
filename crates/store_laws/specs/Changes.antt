-- What each step that changes a tree has changed in it.
use Rattle.std.specs.Prelude.{◌≡◌, ◌⊎◌, ◌≤◌, ℕ, List, [], ◌∷◌, ◌++◌, length, take, min, true, false, Some, None, slice_get, slice_set, if◌then◌else◌, ◌&&◌}
use Rattle.plfs_types.specs.Bytes.{overwritten}
use Rattle.plfs_types.specs.declared.names.Path.{Path}
use Rattle.store_api.specs.declared.tree.Room.{Room}
use Rattle.store_api.specs.declared.tree.Tree.{Tree}
use Rattle.store_api.specs.Kept.{kept_after}
use Rattle.store_api.specs.Step.{Name}
use Rattle.store_api.specs.Room.{is_top, has_folder}
use Rattle.store_laws.specs.Files.{file_at, kept_at, AreTwo, SameButFile, SameButFolder}
use Rattle.store_laws.specs.Differ.{is_listed, NamesDiffer, FoldersDiffer, PathsDiffer}
use Rattle.store_laws.specs.There.{IsFree, HoldsFile, has_entry}

-- the tree with another room of this number
abbrev pub with_room : Tree → ℕ → Room → Tree
with_room tree n room = record { rooms = slice_set tree.rooms n room }

-- one file of one room has come, gone or changed
pub record FileChanged (tree : Tree) (n : ℕ) (path : Path) (after : Tree) : Type 0 where
  pub room : Room
  pub new : Room
  pub has_room : slice_get tree.rooms n ≡ Some room
  pub folder : has_folder room path.folder ≡ true
  pub others : SameButFile path room new
  pub differ : PathsDiffer room → PathsDiffer new
  pub gives : after ≡ with_room tree n new

-- an empty file was made in a folder that is there
pub record Created (tree : Tree) (n : ℕ) (path : Path) (after : Tree) : Type 0 where
  pub room : Room
  pub new : Room
  pub has_room : slice_get tree.rooms n ≡ Some room
  pub folder : has_folder room path.folder ≡ true
  pub none : file_at room path ≡ None
  pub now : file_at new path ≡ Some []
  pub kept : kept_at new path ≡ 0
  pub others : SameButFile path room new
  pub differ : PathsDiffer room → PathsDiffer new
  pub gives : after ≡ with_room tree n new

-- bytes were written over those of a file, from a place within it on
pub record Wrote (tree : Tree) (n : ℕ) (path : Path) (at : ℕ) (bytes : List ℕ) (after : Tree) : Type 0 where
  pub room : Room
  pub old : List ℕ
  pub new : Room
  pub has_room : slice_get tree.rooms n ≡ Some room
  pub folder : has_folder room path.folder ≡ true
  pub there : file_at room path ≡ Some old
  pub within : at ≤ length old
  pub now : file_at new path ≡ Some (overwritten old at bytes)
  pub kept : kept_at new path ≡ kept_after (kept_at room path) old (overwritten old at bytes)
  pub others : SameButFile path room new
  pub differ : PathsDiffer room → PathsDiffer new
  pub gives : after ≡ with_room tree n new

-- a file was cut to its first bytes
pub record WasCut (tree : Tree) (n : ℕ) (path : Path) (len : ℕ) (after : Tree) : Type 0 where
  pub room : Room
  pub old : List ℕ
  pub new : Room
  pub has_room : slice_get tree.rooms n ≡ Some room
  pub folder : has_folder room path.folder ≡ true
  pub there : file_at room path ≡ Some old
  pub within : len ≤ length old
  pub now : file_at new path ≡ Some (take len old)
  pub kept : kept_at new path ≡ min (kept_at room path) len
  pub others : SameButFile path room new
  pub differ : PathsDiffer room → PathsDiffer new
  pub gives : after ≡ with_room tree n new

-- all bytes of a file are kept from now on
pub record WasSynced (tree : Tree) (n : ℕ) (path : Path) (after : Tree) : Type 0 where
  pub room : Room
  pub old : List ℕ
  pub new : Room
  pub has_room : slice_get tree.rooms n ≡ Some room
  pub folder : has_folder room path.folder ≡ true
  pub there : file_at room path ≡ Some old
  pub now : file_at new path ≡ Some old
  pub kept : kept_at new path ≡ length old
  pub others : SameButFile path room new
  pub differ : PathsDiffer room → PathsDiffer new
  pub gives : after ≡ with_room tree n new

-- a file was removed: the only one of its path, where paths differ
pub record Removed (tree : Tree) (n : ℕ) (path : Path) (after : Tree) : Type 0 where
  pub room : Room
  pub old : List ℕ
  pub new : Room
  pub has_room : slice_get tree.rooms n ≡ Some room
  pub folder : has_folder room path.folder ≡ true
  pub there : file_at room path ≡ Some old
  pub gone : PathsDiffer room → file_at new path ≡ None
  pub others : SameButFile path room new
  pub differ : PathsDiffer room → PathsDiffer new
  pub gives : after ≡ with_room tree n new

-- the path of this name in the same folder
abbrev pub beside : Path → Name → Path
beside path name = record { folder = path.folder; file = name }

-- a file has got another name, in the place of the file that had it
pub record Moved (tree : Tree) (n : ℕ) (path : Path) (to : Name) (after : Tree) : Type 0 where
  pub room : Room
  pub bytes : List ℕ
  pub new : Room
  pub has_room : slice_get tree.rooms n ≡ Some room
  pub folder : has_folder room path.folder ≡ true
  pub there : file_at room path ≡ Some bytes
  pub another : path.file ≡ to → ⊥
  pub now : PathsDiffer room → file_at new (beside path to) ≡ Some bytes
  pub kept : PathsDiffer room → kept_at new (beside path to) ≡ kept_at room path
  pub gone : PathsDiffer room → file_at new path ≡ None
  pub same_name : new.name ≡ room.name
  pub same_folders : new.folders ≡ room.folders
  pub others : (other : Path) → AreTwo other path → AreTwo other (beside path to) → file_at new other ≡ file_at room other
  pub kepts : (other : Path) → AreTwo other path → AreTwo other (beside path to) → kept_at new other ≡ kept_at room other
  pub differ : PathsDiffer room → PathsDiffer new
  pub gives : after ≡ with_room tree n new

-- a file was moved, or got the name that it has
abbrev pub Replaced : Tree → ℕ → Path → Name → Tree → Type 0
Replaced tree n path to after = Moved tree n path to after ⊎ ((path.file ≡ to) × HoldsFile tree n path × (after ≡ tree))

-- a folder was made
pub record FolderMade (tree : Tree) (n : ℕ) (folder : Name) (after : Tree) : Type 0 where
  pub room : Room
  pub new : Room
  pub has_room : slice_get tree.rooms n ≡ Some room
  pub none : has_folder room folder ≡ false
  pub now : has_folder new folder ≡ true
  pub others : SameButFolder folder room new
  pub differ : FoldersDiffer room → FoldersDiffer new
  pub gives : after ≡ with_room tree n new

-- a folder with no entries was removed; the top stays
pub record FolderRemoved (tree : Tree) (n : ℕ) (folder : Name) (after : Tree) : Type 0 where
  pub room : Room
  pub new : Room
  pub has_room : slice_get tree.rooms n ≡ Some room
  pub there : has_folder room folder ≡ true
  pub bare : (name : Name) → has_entry room folder name ≡ false
  pub empty : (name : Name) → file_at room (record { folder = folder; file = name }) ≡ None
  pub gone : has_folder new folder ≡ is_top folder
  pub others : SameButFolder folder room new
  pub differ : FoldersDiffer room → FoldersDiffer new
  pub gives : after ≡ with_room tree n new

-- a room with these folders and empty top files was added, under a name that none had
pub record RoomMade (tree : Tree) (name : Name) (folders files : List Name) (after : Tree) : Type 0 where
  pub new : Room
  pub free : IsFree tree name
  pub named : new.name ≡ name
  pub has_folders : new.folders ≡ folders
  pub has_files : (path : Path) → file_at new path ≡ (if is_top path.folder && is_listed path.file files then Some [] else None)
  pub kept : (path : Path) → kept_at new path ≡ 0
  pub differ : NamesDiffer files → PathsDiffer new
  pub gives : after ≡ record { rooms = tree.rooms ++ new ∷ [] }

-- a room has got a name that none had
pub record RoomRenamed (tree : Tree) (n : ℕ) (to : Name) (after : Tree) : Type 0 where
  pub room : Room
  pub new : Room
  pub has_room : slice_get tree.rooms n ≡ Some room
  pub free : IsFree tree to
  pub named : new.name ≡ to
  pub same_folders : new.folders ≡ room.folders
  pub same_files : new.files ≡ room.files
  pub gives : after ≡ with_room tree n new
