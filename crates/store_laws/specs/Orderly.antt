-- Trees in which nothing stands twice, and no file without its folder.
use Rattle.std.specs.Prelude.{◌≡◌, ℕ, List, true, Some, slice_get}
use Rattle.plfs_types.specs.declared.names.Path.{Path}
use Rattle.store_api.specs.declared.tree.Room.{Room}
use Rattle.store_api.specs.declared.tree.Tree.{Tree}
use Rattle.store_api.specs.Step.{Step, make_room}
use Rattle.store_api.specs.Room.{has_folder}
use Rattle.store_laws.specs.Files.{file_at}
use Rattle.store_laws.specs.Differ.{NamesDiffer, FoldersDiffer, PathsDiffer, RoomsDiffer}

-- no folder is named twice, no two files have one path, and each file's folder is there
pub record IsOrderlyRoom (room : Room) : Type 0 where
  pub folders : FoldersDiffer room
  pub paths : PathsDiffer room
  pub housed : (path : Path) (bytes : List ℕ) → file_at room path ≡ Some bytes → has_folder room path.folder ≡ true

-- no two rooms have one name, and each room is orderly
pub record IsOrderly (tree : Tree) : Type 0 where
  pub rooms_differ : RoomsDiffer tree
  pub rooms : (n : ℕ) (room : Room) → slice_get tree.rooms n ≡ Some room → IsOrderlyRoom room

-- a step that makes a room names no folder twice, and no file
abbrev pub MakesOrderly : Step → Type 0
MakesOrderly (make_room name folders files) = NamesDiffer folders × NamesDiffer files
MakesOrderly step = Unit {0}
