-- What stands in a room, path by path and folder by folder.
use Rattle.std.specs.Prelude.{◌≡◌, ℕ, List, Option, Some, None, option_map}
use Rattle.plfs_types.specs.declared.names.Path.{Path}
use Rattle.store_api.specs.declared.tree.File.{File}
use Rattle.store_api.specs.declared.tree.Room.{Room}
use Rattle.store_api.specs.Step.{Name}
use Rattle.store_api.specs.Room.{file_in, has_folder}

-- the bytes of the file at this path, of the first that has it
unfoldable pub file_at : Room → Path → Option (List ℕ)
file_at room path = option_map (λ file. file.bytes) (file_in room path.folder path.file)

abbrev pub kept_of : Option File → ℕ
kept_of None = 0
kept_of (Some file) = file.kept

-- how many of its first bytes are kept, or 0 where there is no file
unfoldable pub kept_at : Room → Path → ℕ
kept_at room path = kept_of (file_in room path.folder path.file)

-- these paths aren't one
abbrev pub AreTwo : Path → Path → Type 0
AreTwo a b = a.folder ≡ b.folder → a.file ≡ b.file → ⊥

-- the new room is the old one in all but the file at this path
pub record SameButFile (path : Path) (room new : Room) : Type 0 where
  pub name : new.name ≡ room.name
  pub folders : new.folders ≡ room.folders
  pub files : (other : Path) → AreTwo other path → file_at new other ≡ file_at room other
  pub kepts : (other : Path) → AreTwo other path → kept_at new other ≡ kept_at room other

-- the new room is the old one in all but whether it has this folder
pub record SameButFolder (folder : Name) (room new : Room) : Type 0 where
  pub name : new.name ≡ room.name
  pub folders : (other : Name) → (other ≡ folder → ⊥) → has_folder new other ≡ has_folder room other
  pub files : new.files ≡ room.files
