-- What a step names, and so may change; all else stays.
use Rattle.std.specs.Prelude.{◌≡◌, ◌⊎◌, ◌≤◌, ℕ, List, length, Some, slice_get}
use Rattle.plfs_types.specs.declared.names.Path.{Path}
use Rattle.store_api.specs.declared.tree.Room.{Room}
use Rattle.store_api.specs.declared.tree.Tree.{Tree}
use Rattle.store_api.specs.Step.{Step, Name, rename_room, make_folder, remove_folder, create, remove, replace, write_at, cut, sync}
use Rattle.store_api.specs.Room.{has_folder}
use Rattle.store_laws.specs.Files.{file_at, kept_at}

-- the path is of this folder and file
abbrev pub IsPathOf : Name → Name → Path → Type 0
IsPathOf folder file path = (path.folder ≡ folder) × (path.file ≡ file)

-- the step may change this file of this room
abbrev pub NamesFile : Step → ℕ → Path → Type 0
NamesFile (create n folder file) number path = (number ≡ n) × IsPathOf folder file path
NamesFile (remove n folder file) number path = (number ≡ n) × IsPathOf folder file path
NamesFile (replace n folder from to) number path = (number ≡ n) × (IsPathOf folder from path ⊎ IsPathOf folder to path)
NamesFile (write_at n folder file at bytes) number path = (number ≡ n) × IsPathOf folder file path
NamesFile (cut n folder file len) number path = (number ≡ n) × IsPathOf folder file path
NamesFile step number path = ⊥

-- the step may change how many bytes of this file of this room are kept
abbrev pub NamesKept : Step → ℕ → Path → Type 0
NamesKept (sync n folder file) number path = (number ≡ n) × IsPathOf folder file path
NamesKept step number path = NamesFile step number path

-- the step may make or remove this folder of this room
abbrev pub NamesFolder : Step → ℕ → Name → Type 0
NamesFolder (make_folder n folder) number name = (number ≡ n) × (name ≡ folder)
NamesFolder (remove_folder n folder) number name = (number ≡ n) × (name ≡ folder)
NamesFolder step number name = ⊥

-- the step may give this room another name
abbrev pub NamesRoom : Step → ℕ → Type 0
NamesRoom (rename_room n to) number = number ≡ n
NamesRoom step number = ⊥

-- of this room all stays that the step doesn't name
pub record KeepsRoom (step : Step) (n : ℕ) (room new : Room) : Type 0 where
  pub name : (NamesRoom step n → ⊥) → new.name ≡ room.name
  pub folders : (folder : Name) → (NamesFolder step n folder → ⊥) → has_folder new folder ≡ has_folder room folder
  pub files : (path : Path) → (NamesFile step n path → ⊥) → file_at new path ≡ file_at room path
  pub kepts : (path : Path) → (NamesKept step n path → ⊥) → kept_at new path ≡ kept_at room path

-- of each room all stays that the step doesn't name
abbrev pub KeepsRooms : Step → Tree → Tree → Type 0
KeepsRooms step tree after = (n : ℕ) (room : Room) → slice_get tree.rooms n ≡ Some room → (new : Room) × (slice_get after.rooms n ≡ Some new) × KeepsRoom step n room new

-- each file stays, and none gets shorter
abbrev pub Lengthens : Tree → Tree → Type 0
Lengthens tree after = (n : ℕ) (room : Room) (path : Path) (bytes : List ℕ) → slice_get tree.rooms n ≡ Some room → file_at room path ≡ Some bytes
    → (new : Room) × (longer : List ℕ) × (slice_get after.rooms n ≡ Some new) × (file_at new path ≡ Some longer) × (length bytes ≤ length longer)

-- the step removes no file, and cuts none
abbrev pub OnlyAdds : Step → Type 0
OnlyAdds (remove n folder file) = ⊥
OnlyAdds (replace n folder from to) = ⊥
OnlyAdds (cut n folder file len) = ⊥
OnlyAdds step = Unit {0}
