-- The truncates of a container.
use Rattle.std.specs.Prelude.{◌≡◌, ◌≢◌, ◌⊎◌, ℕ, List, [], ◌∷◌, ◌++◌, Option, Some, None}
use Rattle.plfs_types.specs.declared.names.Path.{Path}
use Rattle.plfs_types.specs.declared.entries.Trunc.{Trunc}
use Rattle.container_layout.specs.declared.items.Item.{Item}
use Rattle.container_layout.specs.declared.items.Item.TheVariants as item
use Rattle.container_layout.specs.Paths.{IsAt}
use Rattle.store_api.specs.declared.tree.Room.{Room}
use Rattle.mount_model.specs.Paths.{Name}
use Rattle.mount_sound.specs.Items.{HasItem}
use Rattle.shape_check.specs.declared.finding.Complaint.TheVariants.{TwoTruncates}
use Rattle.shape_check.specs.declared.finding.Finding.{Finding}
use Rattle.shape_check.specs.declared.finding.Finding.TheVariants.{Broken, NoMemory}
use Rattle.shape_check.specs.Shape.{IsOneOf}
use Rattle.tree_check.specs.Droppings.{IsTruncOf}

abbrev pub trunc_in_item : Item → Option Trunc
trunc_in_item (item.Trunc stamp size) = Some (record { stamp = stamp; size = size })
trunc_in_item item.Access = None
trunc_in_item (item.OpenHost host writer) = None
trunc_in_item (item.Meta last bytes stamp host writer) = None
trunc_in_item (item.Flat id) = None
trunc_in_item (item.TmpFlat id) = None
trunc_in_item (item.Index host writer) = None
trunc_in_item (item.Log host writer) = None
trunc_in_item (item.Packed host writer) = None
trunc_in_item (item.TmpPacked host id) = None

-- the path is that of this truncate
abbrev pub IsTruncAt : Path → Trunc → Type 0
IsTruncAt path trunc = IsAt path (item.Trunc trunc.stamp trunc.size)

-- the other truncate has its stamp, and another size
abbrev pub IsOtherSize : Trunc → Trunc → Type 0
IsOtherSize other trunc = (other.stamp ≡ trunc.stamp) × (other.size ≢ trunc.size)

-- one of the truncates is so
abbrev pub HasOtherSize : List Trunc → Trunc → Type 0
HasOtherSize truncs trunc = (other : Trunc) × IsTruncOf truncs other × (other.stamp ≡ trunc.stamp) × (other.size ≢ trunc.size)

-- the truncate at the path comes in, if it is one
abbrev pub AddsTruncAt : Path → List Trunc → List Trunc → Type 0
AddsTruncAt path old new =
    ((trunc : Trunc) × IsTruncAt path trunc × (new ≡ old ++ trunc ∷ []) × (HasOtherSize old trunc → ⊥))
    ⊎ (((trunc : Trunc) → IsTruncAt path trunc → ⊥) × (new ≡ old))

-- memory was refused, or another one has the stamp
abbrev pub IsTwice : Name → List Trunc → Trunc → Finding → Type 0
IsTwice room truncs trunc finding = (finding ≡ NoMemory) ⊎ ((finding ≡ Broken (TwoTruncates room trunc.stamp)) × HasOtherSize truncs trunc)

abbrev pub IsTwiceAt : Name → Path → List Trunc → Finding → Type 0
IsTwiceAt room path truncs finding = (finding ≡ NoMemory) ⊎ ((trunc : Trunc) × IsTruncAt path trunc × IsTwice room truncs trunc finding)

-- these are just the truncates at the paths, and no two have one stamp
pub record AreTruncsAt (paths : List Path) (truncs : List Trunc) : Type 0 where
  pub all : (path : Path) (trunc : Trunc) → IsOneOf paths path → IsTruncAt path trunc → IsTruncOf truncs trunc
  pub are : (trunc : Trunc) → IsTruncOf truncs trunc → (path : Path) × IsOneOf paths path × IsTruncAt path trunc
  pub differ : (a b : Trunc) → IsTruncOf truncs a → IsTruncOf truncs b → a.stamp ≡ b.stamp → a.size ≡ b.size

-- memory was refused, or two of the paths are of truncates of one stamp
abbrev pub IsTwoTruncs : Name → List Path → Finding → Type 0
IsTwoTruncs room paths finding =
    (finding ≡ NoMemory)
    ⊎ ((a : Trunc) × (b : Trunc) × (p : Path) × (q : Path) × IsOneOf paths p × IsTruncAt p a × IsOneOf paths q × IsTruncAt q b
    × (finding ≡ Broken (TwoTruncates room b.stamp)) × (a.stamp ≡ b.stamp) × (a.size ≢ b.size))

-- these are just the truncates of the room
pub record AreTruncsOf (truncs : List Trunc) (room : Room) : Type 0 where
  pub all : (stamp size : ℕ) (content : List ℕ) → HasItem room (item.Trunc stamp size) content → IsTruncOf truncs (record { stamp = stamp; size = size })
  pub are : (trunc : Trunc) → IsTruncOf truncs trunc → (content : List ℕ) × HasItem room (item.Trunc trunc.stamp trunc.size) content
