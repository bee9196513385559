-- Rooms in which nothing stands twice.
use Rattle.std.specs.Prelude.{◌≡◌, ℕ, List, [], ◌∷◌, false, Bool, Some, slice_get}
use Rattle.std.specs.List.{list_any}
use Rattle.store_api.specs.declared.tree.File.{File}
use Rattle.store_api.specs.declared.tree.Room.{Room}
use Rattle.store_api.specs.declared.tree.Tree.{Tree}
use Rattle.store_api.specs.Step.{Name}
use Rattle.store_api.specs.Names.{same_name}
use Rattle.store_api.specs.Room.{is_at}

-- whether the name is one of these
abbrev pub is_listed : Name → List Name → Bool
is_listed name names = list_any (λ other. same_name other name) names

-- no name stands twice in the list
abbrev pub NamesDiffer : List Name → Type 0
NamesDiffer [] = Unit {0}
NamesDiffer (name ∷ names) = (is_listed name names ≡ false) × NamesDiffer names

-- whether one of the files has this folder and name
abbrev pub is_there : Name → Name → List File → Bool
is_there folder name files = list_any (is_at folder name) files

-- no two of the files have one path
abbrev pub FilesDiffer : List File → Type 0
FilesDiffer [] = Unit {0}
FilesDiffer (file ∷ files) = (is_there file.path.folder file.path.file files ≡ false) × FilesDiffer files

-- no folder of the room is named twice
abbrev pub FoldersDiffer : Room → Type 0
FoldersDiffer room = NamesDiffer room.folders

-- no two files of the room have one path
abbrev pub PathsDiffer : Room → Type 0
PathsDiffer room = FilesDiffer room.files

-- no two rooms of the tree have one name
abbrev pub RoomsDiffer : Tree → Type 0
RoomsDiffer tree = (m n : ℕ) (a b : Room) → slice_get tree.rooms m ≡ Some a → slice_get tree.rooms n ≡ Some b → a.name ≡ b.name → m ≡ n
