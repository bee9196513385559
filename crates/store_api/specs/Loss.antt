-- What a loss of power leaves: of each file its first bytes, and no fewer than are kept.
use Rattle.std.specs.Prelude.{◌≡◌, ◌≤◌, List, [], ◌∷◌, take, length, min}
use Rattle.store_api.specs.declared.tree.File.{File}
use Rattle.store_api.specs.declared.tree.Room.{Room}
use Rattle.store_api.specs.declared.tree.Tree.{Tree}

-- the new file is the first bytes of the old one, and all of it is kept
pub record LosesFile (file new : File) : Type 0 where
  pub path : new.path ≡ file.path
  pub first : new.bytes ≡ take (length new.bytes) file.bytes
  pub long : min file.kept (length file.bytes) ≤ length new.bytes
  pub kept : new.kept ≡ length new.bytes

abbrev pub LoseFiles : List File → List File → Type 0
LoseFiles [] news = news ≡ []
LoseFiles (file ∷ files) news = (new : File) × (rest : List File) × (news ≡ new ∷ rest) × LosesFile file new × LoseFiles files rest

-- names, folders and paths stay
pub record LosesRoom (room new : Room) : Type 0 where
  pub name : new.name ≡ room.name
  pub folders : new.folders ≡ room.folders
  pub files : LoseFiles room.files new.files

abbrev pub LoseRooms : List Room → List Room → Type 0
LoseRooms [] news = news ≡ []
LoseRooms (room ∷ rooms) news = (new : Room) × (rest : List Room) × (news ≡ new ∷ rest) × LosesRoom room new × LoseRooms rooms rest

-- one of the trees that a loss of power leaves of a tree
abbrev pub Loses : Tree → Tree → Type 0
Loses tree new = LoseRooms tree.rooms new.rooms
