-- What a store shows that is only looked at.
use Rattle.std.specs.Prelude.{◌≡◌, ◌≤◌, ℕ, List, true, Some, slice_get}
use Rattle.plfs_types.specs.declared.names.Path.{Path}
use Rattle.store_api.specs.declared.tree.Room.{Room}
use Rattle.store_api.specs.declared.tree.Tree.{Tree}
use Rattle.store_api.specs.Acts.{Stored}
use Rattle.store_api.specs.AllKept.{all_kept}
use Rattle.store_api.specs.Room.{has_folder}
use Rattle.store_laws.specs.Files.{file_at}

-- the store tells a tree, which is this one once all its bytes are kept
pub record IsSeen (stored : Stored) (tree : Tree) : Type 0 where
  pub told : Tree
  pub tells : stored.tree ≡ Some told
  pub kept : tree ≡ all_kept told

-- the tree stays, and the count of faults doesn't fall
pub record IsLookedAt (old new : Stored) : Type 0 where
  pub same : new.tree ≡ old.tree
  pub counted : old.faults ≤ new.faults

-- the tree has a room of this number
abbrev pub HasRoom : ℕ → Tree → Type 0
HasRoom number tree = (room : Room) × (slice_get tree.rooms number ≡ Some room)

-- the room of this number has the file, and its folder
abbrev pub IsOrderlyFile : ℕ → Path → Tree → Type 0
IsOrderlyFile number path tree = (room : Room) × (slice_get tree.rooms number ≡ Some room) × (has_folder room path.folder ≡ true) × ((bytes : List ℕ) × (file_at room path ≡ Some bytes))

-- whatever the tree is
abbrev pub IsAny : Tree → Type 0
IsAny tree = Unit {0}
