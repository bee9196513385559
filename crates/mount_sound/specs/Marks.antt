-- The room of the mounts' marks, and the ids that the mounts of these marks may have drawn.
use Rattle.std.specs.Prelude.{◌≡◌, ◌⊎◌, ℕ, ◌≤◌, ◌<◌, ◌^◌, List, [], true, false, Some, slice_get}
use Rattle.plfs_types.specs.declared.names.Path.{Path}
use Rattle.store_api.specs.declared.tree.Room.{Room}
use Rattle.store_api.specs.declared.tree.Tree.{Tree}
use Rattle.store_api.specs.Room.{has_folder}
use Rattle.store_laws.specs.Files.{file_at}
use Rattle.store_laws.specs.Differ.{is_listed, FoldersDiffer, PathsDiffer}
use Rattle.mount_model.specs.Paths.{Name, mark_path}
use Rattle.store_api.specs.Names.{marks_folder}
use Rattle.store_api.specs.Names.{marks_name}
use Rattle.mount_model.specs.State.{id_of}

-- the file is an empty mark
abbrev pub IsMarkFile : Path → List ℕ → Type 0
IsMarkFile path bytes = (n : ℕ) × (1 ≤ n) × (n < 2 ^ 32) × (path ≡ mark_path n) × (bytes ≡ [])

-- the room has the folder of marks, the marks in it, and nothing else
pub record IsMarksRoom (room : Room) : Type 0 where
  pub named : room.name ≡ marks_name
  pub folders_differ : FoldersDiffer room
  pub paths_differ : PathsDiffer room
  pub has_marks : has_folder room marks_folder ≡ true
  pub folders : (folder : Name) → has_folder room folder ≡ true → (folder ≡ []) ⊎ (folder ≡ marks_folder)
  pub top_unlisted : is_listed [] room.folders ≡ false
  pub files : (path : Path) (bytes : List ℕ) → file_at room path ≡ Some bytes → IsMarkFile path bytes

-- the mount of this number has put its mark
pub record HasMark (tree : Tree) (mount : ℕ) : Type 0 where
  pub number : ℕ
  pub room : Room
  pub there : slice_get tree.rooms number ≡ Some room
  pub named : room.name ≡ marks_name
  pub mark : file_at room (mark_path mount) ≡ Some []

-- the id is one that a mount with a mark may have drawn
pub record IsOfMark (tree : Tree) (id : ℕ) : Type 0 where
  pub mount : ℕ
  pub serial : ℕ
  pub has_mark : HasMark tree mount
  pub mount_fits : mount < 2 ^ 32
  pub some : 1 ≤ serial
  pub serial_fits : serial < 2 ^ 32
  pub is : id ≡ id_of mount serial
