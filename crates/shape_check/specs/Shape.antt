-- The shape of a container that is checked, and the list of its files' paths.
use Rattle.std.specs.Prelude.{◌≡◌, ◌≢◌, ◌⊎◌, ℕ, List, [], ◌∷◌, ◌++◌, true, Some, None}
use Rattle.std.specs.Ordering.{nat_cmp, ordering_then}
use Rattle.std.specs.declared.cmp.Ordering.{Ordering}
use Rattle.std.specs.Cmp.Lexicographic.{slice_cmp}
use Rattle.std.specs.List.Sorted.{IsStrictlySortedBy}
use Rattle.plfs_types.specs.declared.names.Path.{Path}
use Rattle.store_api.specs.declared.tree.Room.{Room}
use Rattle.store_api.specs.declared.tree.Tree.{Tree}
use Rattle.store_api.specs.Acts.{Stored}
use Rattle.store_api.specs.Room.{has_folder}
use Rattle.store_laws.specs.Files.{file_at}
use Rattle.store_laws.specs.Differ.{is_listed}
use Rattle.store_laws.specs.There.{AreInOrder}
use Rattle.mount_model.specs.Paths.{Name, metadata, truncs, flats, access_path}
use Rattle.mount_sound.specs.Container.{IsContainer, IsContainerFolder}
use Rattle.mount_sound.specs.Marks.{IsOfMark}
use Rattle.shape_check.specs.declared.files.Place.{Place}
use Rattle.shape_check.specs.Files.{OfPlace, IsFineItem}

-- where a file of this name in the folder is
abbrev pub in_folder : Name → Name → Path
in_folder folder name = record { folder = folder; file = name }

-- the path is one of these
abbrev pub IsOneOf : List Path → Path → Type 0
IsOneOf [] path = ⊥
IsOneOf (first ∷ paths) path = (first ≡ path) ⊎ IsOneOf paths path

-- in byte order of folders, and in one folder of names
abbrev pub path_cmp : Path → Path → Ordering
path_cmp a b = ordering_then (slice_cmp nat_cmp a.folder b.folder) (slice_cmp nat_cmp a.file b.file)

-- each once and in order
abbrev pub ArePathsInOrder : List Path → Type 0
ArePathsInOrder paths = IsStrictlySortedBy path_cmp paths

-- it is so of each of these paths
abbrev pub EachAt : (Path → Tree → Room → Type 0) → List Path → Tree → Room → Type 0
EachAt Q paths tree room = (path : Path) → IsOneOf paths path → Q path tree room

-- each of these paths has a file
abbrev pub HaveFiles : List Path → Room → Type 0
HaveFiles paths room = (path : Path) → IsOneOf paths path → (bytes : List ℕ) × (file_at room path ≡ Some bytes)

-- the list becomes longer by paths of which this holds
pub record Adds (Q : List Path → Tree → Room → Type 0) (old new : List Path) (place : Place) (stored : Stored) : Type 0 where
  pub more : List Path
  pub longer : new ≡ old ++ more
  pub of : OfPlace (Q more) place stored

-- the folder, if it is there and not the top, is one that a container may have, and these are the paths of its files
pub record IsFolderOf (folder : Name) (paths : List Path) (tree : Tree) (room : Room) : Type 0 where
  pub allowed : has_folder room folder ≡ true → IsContainerFolder folder
  pub all : (name : Name) (bytes : List ℕ) → folder ≢ [] → file_at room (in_folder folder name) ≡ Some bytes → IsOneOf paths (in_folder folder name)
  pub are : HaveFiles paths room
  pub inside : (path : Path) → IsOneOf paths path → path.folder ≡ folder
  pub ordered : ArePathsInOrder paths

-- the same, and a file of this name at the top is an item's
pub record IsTopOf (top : Name) (paths : List Path) (tree : Tree) (room : Room) : Type 0 where
  pub file : IsFineItem (in_folder [] top) tree room
  pub folder : IsFolderOf top paths tree room

-- of these entries of the top: the folders may be there, files are items', and these are the paths of the folders' files
pub record HasWalked (tops : List Name) (paths : List Path) (tree : Tree) (room : Room) : Type 0 where
  pub files : (name : Name) → is_listed name tops ≡ true → IsFineItem (in_folder [] name) tree room
  pub folders : (folder : Name) → is_listed folder tops ≡ true → has_folder room folder ≡ true → IsContainerFolder folder
  pub all : (folder name : Name) (bytes : List ℕ) → is_listed folder tops ≡ true → folder ≢ [] → file_at room (in_folder folder name) ≡ Some bytes → IsOneOf paths (in_folder folder name)
  pub are : HaveFiles paths room
  pub inside : (path : Path) → IsOneOf paths path → is_listed path.folder tops ≡ true
  pub ordered : AreInOrder tops → ArePathsInOrder paths

-- the same of the whole container: no folder but those that may be there, and these paths are those of its files but at the top
pub record AreWalked (paths : List Path) (tree : Tree) (room : Room) : Type 0 where
  pub files : (name : Name) → IsFineItem (in_folder [] name) tree room
  pub folders : (folder : Name) → has_folder room folder ≡ true → IsContainerFolder folder
  pub all : (path : Path) (bytes : List ℕ) → path.folder ≢ [] → file_at room path ≡ Some bytes → IsOneOf paths path
  pub are : HaveFiles paths room
  pub ordered : ArePathsInOrder paths

-- it has the file that every container has
abbrev pub HasAccess : Tree → Room → Type 0
HasAccess tree room = file_at room access_path ≢ None

-- it has what every container has
pub record HasNeeded (tree : Tree) (room : Room) : Type 0 where
  pub metadata : has_folder room metadata ≡ true
  pub truncs : has_folder room truncs ≡ true
  pub flats : has_folder room flats ≡ true
  pub access : HasAccess tree room

-- it is a container as in a sound tree, and these are the paths of its files but at the top, each once and in order
pub record HasShape (paths : List Path) (tree : Tree) (room : Room) : Type 0 where
  pub container : IsContainer (IsOfMark tree) room
  pub all : (path : Path) (bytes : List ℕ) → path.folder ≢ [] → file_at room path ≡ Some bytes → IsOneOf paths path
  pub are : HaveFiles paths room
  pub ordered : ArePathsInOrder paths
