-- A file that is read whole.
use Rattle.std.specs.Prelude.{◌≡◌, ℕ, List, length, Some}
use Rattle.plfs_types.specs.declared.names.Path.{Path}
use Rattle.store_api.specs.declared.tree.Tree.{Tree}
use Rattle.store_laws.specs.Files.{file_at}
use Rattle.mount_sound.specs.Dropping.{bytes_of}
use Rattle.shape_check.specs.declared.files.Place.{Place}
use Rattle.shape_check.specs.Files.{IsPlaced}

-- the file there has this length, where a missing one counts as empty
pub record HasLength (place : Place) (path : Path) (size : ℕ) (tree : Tree) : Type 0 where
  pub placed : IsPlaced place tree
  pub long : length (bytes_of (file_at placed.room path)) ≡ size

-- the container has a file of this length there
pub record HasFileOf (place : Place) (path : Path) (size : ℕ) (tree : Tree) : Type 0 where
  pub placed : IsPlaced place tree
  pub bytes : List ℕ
  pub there : file_at placed.room path ≡ Some bytes
  pub long : length bytes ≡ size
