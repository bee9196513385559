-- What is known of a container while its items are checked, and what has to hold of each item.
use Rattle.std.specs.Prelude.{◌≡◌, ℕ, ◌≤◌, List, Some, None}
use Rattle.std.specs.BTreeMap.{BTreeMap}
use Rattle.plfs_types.specs.declared.entries.Trunc.{Trunc}
use Rattle.plfs_types.specs.declared.names.Path.{Path}
use Rattle.container_layout.specs.declared.items.Item.{Item}
use Rattle.container_layout.specs.declared.items.Item.TheVariants as item
use Rattle.container_layout.specs.Paths.{IsAt, path_of}
use Rattle.store_api.specs.declared.tree.Room.{Room}
use Rattle.store_api.specs.declared.tree.Tree.{Tree}
use Rattle.store_api.specs.Acts.{Stored}
use Rattle.store_laws.specs.Files.{file_at}
use Rattle.mount_model.specs.Paths.{index_path, open_path}
use Rattle.mount_sound.specs.Dropping.{bytes_of, AreBeside, IsKeptWhole, IsToldOf}
use Rattle.mount_sound.specs.Flats.{IsRightFlat, IsRightPack}
use Rattle.mount_sound.specs.Items.{HasItem, HasMeta}
use Rattle.mount_sound.specs.There.{landed_entries, landed_in}
use Rattle.tree_laws.specs.Checked.{IsCheckedDropping}
use Rattle.shape_check.specs.declared.files.Place.{Place}
use Rattle.shape_check.specs.declared.finding.Complaint.{Complaint}
use Rattle.shape_check.specs.declared.finding.Finding.{Finding}
use Rattle.shape_check.specs.Files.{IsPlaced}
use Rattle.shape_check.specs.Rightness.{IsFoundIn}
use Rattle.shape_check.specs.Seeing.{IsSeen}
use Rattle.shape_check.specs.Shape.{HaveFiles}
use Rattle.tree_check.specs.declared.owners.Owner.{Owner}
use Rattle.tree_check.specs.Owners.{AreOwnersOf}
use Rattle.tree_check.specs.Truncates.{AreTruncsOf}

-- ---- what has to hold

-- what is checked of each writer's index dropping
pub record IsFineDropping (room : Room) (host writer : ℕ) : Type 0 where
  pub dropping : IsCheckedDropping writer (bytes_of (file_at room (index_path host writer)))
  pub beside : (stamp size : ℕ) (content : List ℕ) → HasItem room (item.Trunc stamp size) content → AreBeside stamp (landed_entries room host writer)

-- what is checked of a writer with this metadata dropping
pub record IsLeftWriter (room : Room) (last bytes stamp host writer : ℕ) : Type 0 where
  pub fine : IsFineDropping room host writer
  pub told : IsToldOf last bytes stamp (landed_entries room host writer)
  pub settled : IsKeptWhole room host writer (landed_entries room host writer)

-- what is checked of a writer with none
pub record IsOpenWriter (room : Room) (host writer : ℕ) : Type 0 where
  pub fine : IsFineDropping room host writer
  pub accounted : file_at room (open_path host writer) ≡ None → 1 ≤ landed_in room host writer → ⊥

-- what is checked of an item
abbrev pub IsRightItem : Item → Tree → Room → Type 0
IsRightItem (item.Meta last bytes stamp host writer) tree room = IsLeftWriter room last bytes stamp host writer
IsRightItem (item.Index host writer) tree room = (HasMeta room host writer → ⊥) → IsOpenWriter room host writer
IsRightItem (item.Packed host writer) tree room = (bytes : List ℕ) → file_at room (path_of (item.Packed host writer)) ≡ Some bytes → IsRightPack room host writer bytes
IsRightItem (item.Flat id) tree room = (bytes : List ℕ) → file_at room (path_of (item.Flat id)) ≡ Some bytes → IsRightFlat room bytes
IsRightItem item.Access tree room = Unit {0}
IsRightItem (item.OpenHost host writer) tree room = Unit {0}
IsRightItem (item.Trunc stamp size) tree room = Unit {0}
IsRightItem (item.TmpFlat id) tree room = Unit {0}
IsRightItem (item.Log host writer) tree room = Unit {0}
IsRightItem (item.TmpPacked host id) tree room = Unit {0}

-- the same of the item at a path
abbrev pub IsRightAt : Path → Tree → Room → Type 0
IsRightAt path tree room = (it : Item) → IsAt path it → IsRightItem it tree room

-- ---- what is known

-- the container has a file there, and these are its truncates
pub record IsAtWork (place : Place) (truncs : List Trunc) (path : Path) (tree : Tree) : Type 0 where
  pub placed : IsPlaced place tree
  pub bytes : List ℕ
  pub there : file_at placed.room path ≡ Some bytes
  pub truncs_are : AreTruncsOf truncs placed.room

-- it is so of the container, where that is known
abbrev pub OfWork : (Tree → Room → Type 0) → Place → List Trunc → Path → Stored → Type 0
OfWork Q place truncs path stored = (tree : Tree) → IsSeen stored tree → (at : IsAtWork place truncs path tree) → Q tree at.placed.room

-- the same, and these are its writers
pub record IsKnownAt (place : Place) (owners : BTreeMap ℕ Owner) (truncs : List Trunc) (path : Path) (tree : Tree) : Type 0 where
  pub at : IsAtWork place truncs path tree
  pub owners_are : AreOwnersOf owners at.placed.room

abbrev pub OfKnownAt : (Tree → Room → Type 0) → Place → BTreeMap ℕ Owner → List Trunc → Path → Stored → Type 0
OfKnownAt Q place owners truncs path stored = (tree : Tree) → IsSeen stored tree → (known : IsKnownAt place owners truncs path tree) → Q tree known.at.placed.room

-- what is found wrong of it is of it, and R holds of the complaint there
abbrev pub FindsAt : (Room → Complaint → Type 0) → Place → BTreeMap ℕ Owner → List Trunc → Path → Stored → Finding → Type 0
FindsAt R place owners truncs path stored finding = OfKnownAt (λ tree room. IsFoundIn place.name (R room) finding) place owners truncs path stored

-- the same of a container that has a file at each of these paths
pub record IsKnownAll (place : Place) (owners : BTreeMap ℕ Owner) (truncs : List Trunc) (paths : List Path) (tree : Tree) : Type 0 where
  pub placed : IsPlaced place tree
  pub files : HaveFiles paths placed.room
  pub truncs_are : AreTruncsOf truncs placed.room
  pub owners_are : AreOwnersOf owners placed.room

abbrev pub OfKnownAll : (Tree → Room → Type 0) → Place → BTreeMap ℕ Owner → List Trunc → List Path → Stored → Type 0
OfKnownAll Q place owners truncs paths stored = (tree : Tree) → IsSeen stored tree → (known : IsKnownAll place owners truncs paths tree) → Q tree known.placed.room

-- ---- writers that have the container open

-- the index dropping of the writer is there, so many of its entries have landed, and it has no metadata dropping
pub record IsOpenAt (place : Place) (host writer landed : ℕ) (tree : Tree) : Type 0 where
  pub placed : IsPlaced place tree
  pub bytes : List ℕ
  pub has : HasItem placed.room (item.Index host writer) bytes
  pub landed_are : landed ≡ landed_in placed.room host writer
  pub stays : HasMeta placed.room host writer → ⊥

-- it is among those that have the container open, if any of its entries have landed
abbrev pub IsOpenEntry : ℕ → ℕ → ℕ → Tree → Room → Type 0
IsOpenEntry host writer landed tree room = file_at room (open_path host writer) ≡ None → 1 ≤ landed → ⊥
