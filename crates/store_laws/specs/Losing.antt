-- What a loss of power leaves of a room, path by path, and what a step spares of what is kept.
use Rattle.std.specs.Prelude.{◌≡◌, ◌⊎◌, ◌≤◌, ℕ, List, length, min, take, Some, None, slice_get}
use Rattle.plfs_types.specs.Bytes.{overwritten}
use Rattle.plfs_types.specs.declared.names.Path.{Path}
use Rattle.store_api.specs.declared.tree.Room.{Room}
use Rattle.store_api.specs.declared.tree.Tree.{Tree}
use Rattle.store_api.specs.Step.{Step, remove, replace, write_at, cut}
use Rattle.store_laws.specs.Files.{file_at, kept_at}
use Rattle.store_laws.specs.Differ.{PathsDiffer}
use Rattle.store_laws.specs.Naming.{NamesFile}
use Rattle.store_laws.specs.Prefix.{IsPrefix}

-- the first bytes of a file, no fewer than were kept, all of which are kept now
pub record LosesBytes (room new : Room) (path : Path) (bytes : List ℕ) : Type 0 where
  pub front : List ℕ
  pub there : file_at new path ≡ Some front
  pub begins : IsPrefix front bytes
  pub long : min (kept_at room path) (length bytes) ≤ length front
  pub kept : kept_at new path ≡ length front

-- each file has its first bytes, and nothing else changes
pub record HasLost (room new : Room) : Type 0 where
  pub name : new.name ≡ room.name
  pub folders : new.folders ≡ room.folders
  pub files : (path : Path) (bytes : List ℕ) → file_at room path ≡ Some bytes → LosesBytes room new path bytes
  pub none : (path : Path) → file_at room path ≡ None → file_at new path ≡ None
  pub differ : PathsDiffer room → PathsDiffer new

-- so it is in each room, and there are no others
pub record HaveLost (tree new : Tree) : Type 0 where
  pub rooms : (n : ℕ) (room : Room) → slice_get tree.rooms n ≡ Some room → (lost : Room) × (slice_get new.rooms n ≡ Some lost) × HasLost room lost
  pub none : (n : ℕ) → slice_get tree.rooms n ≡ None → slice_get new.rooms n ≡ None

-- however many of these bytes are written over the file's, so many of its first ones are as before
abbrev pub Repeats : Tree → ℕ → Path → ℕ → List ℕ → ℕ → Type 0
Repeats tree number path at bytes front = (room : Room) (old : List ℕ) → slice_get tree.rooms number ≡ Some room → file_at room path ≡ Some old → (k : ℕ) → take front (overwritten old at (take k bytes)) ≡ take front old

-- the step changes none of the first bytes of this file, so many
abbrev pub Spares : Tree → Step → ℕ → Path → ℕ → Type 0
Spares tree (cut n folder file len) number path front = NamesFile (cut n folder file len) number path → front ≤ len
Spares tree (write_at n folder file at bytes) number path front = NamesFile (write_at n folder file at bytes) number path → (front ≤ at) ⊎ Repeats tree number path at bytes front
Spares tree (remove n folder file) number path front = NamesFile (remove n folder file) number path → ⊥
Spares tree (replace n folder from to) number path front = NamesFile (replace n folder from to) number path → ⊥
Spares tree step number path front = Unit {0}

-- so many first bytes of the file are there, and kept
pub record KeepsFront (tree : Tree) (n : ℕ) (path : Path) (front : ℕ) : Type 0 where
  pub room : Room
  pub bytes : List ℕ
  pub has_room : slice_get tree.rooms n ≡ Some room
  pub there : file_at room path ≡ Some bytes
  pub long : front ≤ length bytes
  pub kept : front ≤ kept_at room path

-- they are there after it, and kept, and the same
abbrev pub StaysKept : Tree → ℕ → Path → ℕ → Tree → Type 0
StaysKept tree n path front after = (was : KeepsFront tree n path front) → (now : KeepsFront after n path front) × (take front now.bytes ≡ take front was.bytes)
