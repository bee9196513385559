-- What is checked of each room.
use Rattle.std.specs.Prelude.{◌≡◌, ◌⊎◌, ℕ, List, true, Option, Some, slice_get}
use Rattle.store_api.specs.declared.tree.Room.{Room}
use Rattle.store_api.specs.declared.tree.Tree.{Tree}
use Rattle.store_api.specs.Acts.{Stored}
use Rattle.store_laws.specs.Differ.{is_listed}
use Rattle.store_laws.specs.There.{IsFree}
use Rattle.mount_model.specs.Paths.{Name}
use Rattle.mount_sound.specs.Container.{IsContainer}
use Rattle.mount_sound.specs.Marks.{IsMarksRoom, IsOfMark}
use Rattle.tree_laws.specs.Checked.{IsCheckedRoom, IsCheckedTree}
use Rattle.tree_laws.specs.Listable.{IsListable}
use Rattle.shape_check.specs.Places.{HasMarks}
use Rattle.shape_check.specs.Seeing.{IsSeen}

-- the room is a container of which all holds that is checked
pub record IsCheckedContainer (tree : Tree) (room : Room) : Type 0 where
  pub shape : IsContainer (IsOfMark tree) room
  pub checked : IsCheckedRoom room

-- the room is that of the marks or a container, and all holds of it that is checked
pub record IsRightRoom (tree : Tree) (room : Room) : Type 0 where
  pub shape : IsMarksRoom room ⊎ IsContainer (IsOfMark tree) room
  pub checked : IsCheckedRoom room

-- a room has the name, in a tree that listings show whole
pub record IsNamed (marks : Option ℕ) (name : Name) (tree : Tree) : Type 0 where
  pub marked : HasMarks marks tree
  pub there : IsFree tree name → ⊥

-- the room of this name is as in a sound tree
abbrev pub OfNamed : Option ℕ → Name → Stored → Type 0
OfNamed marks name stored = (tree : Tree) → IsSeen stored tree → HasMarks marks tree → (number : ℕ) (room : Room) → slice_get tree.rooms number ≡ Some room → room.name ≡ name → IsRightRoom tree room

-- rooms have these names, in a tree that listings show whole
pub record HasRooms (marks : Option ℕ) (names : List Name) (tree : Tree) : Type 0 where
  pub marked : HasMarks marks tree
  pub there : (name : Name) → is_listed name names ≡ true → IsFree tree name → ⊥

-- the rooms of these names are as in a sound tree
abbrev pub AreRight : Option ℕ → List Name → Stored → Type 0
AreRight marks names stored = (name : Name) → is_listed name names ≡ true → OfNamed marks name stored

-- all holds of the tree that is checked
abbrev pub OfTree : Stored → Type 0
OfTree stored = (tree : Tree) → IsSeen stored tree → IsListable tree → IsCheckedTree tree
