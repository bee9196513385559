-- The shape of a tree, and of what the store of a mount tells.
use Rattle.std.specs.Prelude.{◌≡◌, ◌⊎◌, ◌≤◌, ℕ, [], Some, slice_get}
use Rattle.store_api.specs.declared.tree.Room.{Room}
use Rattle.store_api.specs.declared.tree.Tree.{Tree}
use Rattle.store_laws.specs.Files.{file_at}
use Rattle.store_laws.specs.Differ.{RoomsDiffer}
use Rattle.mount_model.specs.Paths.{mark_path}
use Rattle.mount_model.specs.State.{State, last_id}
use Rattle.mount_sound.specs.Marks.{IsMarksRoom, IsOfMark}
use Rattle.mount_sound.specs.Container.{IsContainer}

-- Each room is that of the marks or a container, in which each writer's id is one of these.
pub record IsShapedTree (allowed : ℕ → Type 0) (tree : Tree) : Type 0 where
  pub rooms_differ : RoomsDiffer tree
  pub rooms : (n : ℕ) (room : Room) → slice_get tree.rooms n ≡ Some room → IsMarksRoom room ⊎ IsContainer allowed room

-- the id is of a mark, and has been drawn by now
abbrev pub IsDrawnBy : ℕ → Tree → ℕ → Type 0
IsDrawnBy last tree id = IsOfMark tree id × (id ≤ last)

-- The store tells a tree of this shape, in which the mount has its mark.
pub record IsShaped (state : State) : Type 0 where
  pub tree : Tree
  pub told : state.store.tree ≡ Some tree
  pub shaped : IsShapedTree (IsDrawnBy (last_id state) tree) tree
  pub marks : Room
  pub has_marks : slice_get tree.rooms state.marks ≡ Some marks
  pub is_marks : IsMarksRoom marks
  pub mark : file_at marks (mark_path state.mount) ≡ Some []
