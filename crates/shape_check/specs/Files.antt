-- A container that is checked, and what is judged of its files.
use Rattle.std.specs.Prelude.{◌≡◌, ◌≢◌, ◌⊎◌, ◌<◌, ℕ, List, Bool, true, false, Option, Some, None, slice_get}
use Rattle.plfs_types.specs.declared.names.Path.{Path}
use Rattle.container_layout.specs.declared.items.Item.{Item}
use Rattle.container_layout.specs.declared.items.Item.TheVariants.{Access, OpenHost, Meta, Trunc, Flat, TmpFlat, Index, Log, Packed, TmpPacked}
use Rattle.container_layout.specs.Paths.{IsAt, hostdir_of}
use Rattle.store_api.specs.declared.tree.Room.{Room}
use Rattle.store_api.specs.declared.tree.Tree.{Tree}
use Rattle.store_api.specs.Acts.{Stored}
use Rattle.store_laws.specs.Files.{file_at}
use Rattle.mount_model.specs.Paths.{Name}
use Rattle.store_api.specs.Names.{marks_name}
use Rattle.mount_sound.specs.Container.{IsContainerFolder, IsItemFile}
use Rattle.mount_sound.specs.Marks.{IsOfMark}
use Rattle.tree_laws.specs.Listable.{IsListable}
use Rattle.shape_check.specs.declared.files.Place.{Place}
use Rattle.shape_check.specs.declared.finding.Finding.{Finding}
use Rattle.shape_check.specs.declared.finding.Finding.TheVariants.{Broken, NoMemory}
use Rattle.shape_check.specs.declared.finding.Complaint.TheVariants.{Foreign, ForeignFolder, Filled}
use Rattle.shape_check.specs.Seeing.{IsSeen}
use Rattle.shape_check.specs.Told.{TellsRoom}

-- the room of this place is a container's, in a tree that listings show whole
pub record IsPlaced (place : Place) (tree : Tree) : Type 0 where
  pub listable : IsListable tree
  pub marks : TellsRoom tree marks_name place.marks
  pub room : Room
  pub there : slice_get tree.rooms place.number ≡ Some room
  pub named : room.name ≡ place.name
  pub other : place.name ≢ marks_name

-- it is so of the container that the store shows
abbrev pub OfPlace : (Tree → Room → Type 0) → Place → Stored → Type 0
OfPlace Q place stored = (tree : Tree) → IsSeen stored tree → (at : IsPlaced place tree) → Q tree at.room

-- the file at this path, if it is there, is an item's, empty where it has to be, of an id that was drawn
abbrev pub IsFineItem : Path → Tree → Room → Type 0
IsFineItem path tree room = (bytes : List ℕ) → file_at room path ≡ Some bytes → IsItemFile (IsOfMark tree) room path bytes

-- whether the item may have bytes
abbrev pub holds_bytes : Item → Bool
holds_bytes Access = false
holds_bytes (OpenHost host writer) = false
holds_bytes (Meta last bytes stamp host writer) = false
holds_bytes (Trunc stamp size) = false
holds_bytes (Flat id) = true
holds_bytes (TmpFlat id) = true
holds_bytes (Index host writer) = true
holds_bytes (Log host writer) = true
holds_bytes (Packed host writer) = true
holds_bytes (TmpPacked host id) = true

-- the id in its name
abbrev pub id_in : Item → Option ℕ
id_in Access = None
id_in (OpenHost host writer) = Some writer
id_in (Meta last bytes stamp host writer) = Some writer
id_in (Trunc stamp size) = None
id_in (Flat id) = Some id
id_in (TmpFlat id) = Some id
id_in (Index host writer) = Some writer
id_in (Log host writer) = Some writer
id_in (Packed host writer) = Some writer
id_in (TmpPacked host id) = Some id

-- a file of this length there is an item's, of this id, if of one, and empty where it has to be
pub record IsItemOf (path : Path) (len : ℕ) (id : Option ℕ) : Type 0 where
  pub item : Item
  pub is_at : IsAt path item
  pub holds : (holds_bytes item ≡ true) ⊎ (len ≡ 0)
  pub named : id ≡ id_in item

-- it is no item's, or it may not have so many bytes
abbrev pub IsNoItem : Name → Path → ℕ → Finding → Type 0
IsNoItem room path len finding =
    ((finding ≡ Broken (Foreign room path)) × ((item : Item) → IsAt path item → ⊥))
    ⊎ ((finding ≡ Broken (Filled room path)) × (len ≢ 0) × ((item : Item) × IsAt path item × (holds_bytes item ≡ false)))

-- the id, if there is one, is one that a mount with a mark may have drawn
abbrev pub IsDrawn : Option ℕ → Tree → Type 0
IsDrawn None tree = Unit {0}
IsDrawn (Some id) tree = IsOfMark tree id

-- the container has a file there, of an item with this id
pub record HasItemFile (place : Place) (path : Path) (id : Option ℕ) (tree : Tree) : Type 0 where
  pub placed : IsPlaced place tree
  pub bytes : List ℕ
  pub there : file_at placed.room path ≡ Some bytes
  pub item : Item
  pub is_at : IsAt path item
  pub named : id ≡ id_in item

-- it is a folder of droppings
abbrev pub IsHostdir : Name → Type 0
IsHostdir folder = (host : ℕ) × (host < 32) × (folder ≡ hostdir_of host)

-- memory was refused, or no container may have the folder
abbrev pub IsForeignFolder : Name → Name → Finding → Type 0
IsForeignFolder room folder finding = (finding ≡ NoMemory) ⊎ ((finding ≡ Broken (ForeignFolder room folder)) × (IsContainerFolder folder → ⊥))
