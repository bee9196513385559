-- Trees that listings show whole.
use Rattle.std.specs.Prelude.{◌≡◌, ℕ, [], Some, None, true, false, slice_get}
use Rattle.store_api.specs.declared.tree.Room.{Room}
use Rattle.store_api.specs.declared.tree.Tree.{Tree}
use Rattle.store_api.specs.Step.{Name}
use Rattle.store_laws.specs.Differ.{is_listed}
use Rattle.store_laws.specs.Files.{file_at}
use Rattle.store_laws.specs.Orderly.{IsOrderly}

-- Nothing stands twice, nor as a folder and as a file, and no file without its folder, which no listing would show; and no folder has the empty name.
pub record IsListable (tree : Tree) : Type 0 where
  pub orderly : IsOrderly tree
  pub tops_unlisted : (number : ℕ) (room : Room) → slice_get tree.rooms number ≡ Some room → is_listed [] room.folders ≡ false
  pub apart : (number : ℕ) (room : Room) (name : Name) → slice_get tree.rooms number ≡ Some room → is_listed name room.folders ≡ true → file_at room (record { folder = []; file = name }) ≡ None
