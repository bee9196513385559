-- What stands in a container.
use Rattle.std.specs.Prelude.{◌≡◌, ◌⊎◌, ℕ, ◌<◌, List, [], true, false, Some}
use Rattle.plfs_types.specs.declared.names.Path.{Path}
use Rattle.plfs_types.specs.Names.{IsLogicalName}
use Rattle.container_layout.specs.declared.items.Item.{Item}
use Rattle.container_layout.specs.declared.items.Item.TheVariants.{OpenHost, Meta, Flat, TmpFlat, Index, Log, Packed, TmpPacked}
use Rattle.container_layout.specs.Paths.{IsAt, hostdir_of}
use Rattle.store_api.specs.declared.tree.Room.{Room}
use Rattle.store_api.specs.Room.{has_folder}
use Rattle.store_laws.specs.Files.{file_at}
use Rattle.store_laws.specs.Differ.{is_listed, FoldersDiffer, PathsDiffer}
use Rattle.mount_model.specs.Paths.{Name, metadata, truncs, flats, access_path}
use Rattle.container_layout.specs.Paths.{openhosts}

-- the top, or a folder that a container may have
abbrev pub IsContainerFolder : Name → Type 0
IsContainerFolder folder =
    (folder ≡ []) ⊎ (folder ≡ openhosts) ⊎ (folder ≡ metadata) ⊎ (folder ≡ truncs) ⊎ (folder ≡ flats)
    ⊎ ((host : ℕ) × (host < 32) × (folder ≡ hostdir_of host))

-- an item may hold these bytes: droppings, flattened indices and packed ones hold any, all others none
abbrev pub MayHold : Item → List ℕ → Type 0
MayHold (Index host writer) bytes = Unit {0}
MayHold (Log host writer) bytes = Unit {0}
MayHold (Flat id) bytes = Unit {0}
MayHold (TmpFlat id) bytes = Unit {0}
MayHold (Packed host writer) bytes = Unit {0}
MayHold (TmpPacked host id) bytes = Unit {0}
MayHold item bytes = bytes ≡ []

-- the id in the item's name, where there is one, is one of which this holds
abbrev pub IsOfId : (ℕ → Type 0) → Item → Type 0
IsOfId allowed (OpenHost host writer) = allowed writer
IsOfId allowed (Meta last bytes stamp host writer) = allowed writer
IsOfId allowed (Index host writer) = allowed writer
IsOfId allowed (Log host writer) = allowed writer
IsOfId allowed (Packed host writer) = allowed writer
IsOfId allowed (Flat id) = allowed id
IsOfId allowed (TmpFlat id) = allowed id
IsOfId allowed (TmpPacked host id) = allowed id
IsOfId allowed item = Unit {0}

-- the file is that of an item, in a folder that is there
pub record IsItemFile (allowed : ℕ → Type 0) (room : Room) (path : Path) (bytes : List ℕ) : Type 0 where
  pub item : Item
  pub is_at : IsAt path item
  pub holds : MayHold item bytes
  pub id : IsOfId allowed item
  pub housed : has_folder room path.folder ≡ true

-- the room has what every container has, and nothing that none may have
pub record IsContainer (allowed : ℕ → Type 0) (room : Room) : Type 0 where
  pub named : IsLogicalName room.name
  pub folders_differ : FoldersDiffer room
  pub paths_differ : PathsDiffer room
  pub has_metadata : has_folder room metadata ≡ true
  pub has_truncs : has_folder room truncs ≡ true
  pub has_flats : has_folder room flats ≡ true
  pub has_access : file_at room access_path ≡ Some []
  pub folders : (folder : Name) → has_folder room folder ≡ true → IsContainerFolder folder
  -- the top has no entry of its own
  pub top_unlisted : is_listed [] room.folders ≡ false
  pub files : (path : Path) (bytes : List ℕ) → file_at room path ≡ Some bytes → IsItemFile allowed room path bytes
