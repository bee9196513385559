-- Whose the items of a container are.
use Rattle.std.specs.Prelude.{◌≡◌, ◌≢◌, ◌⊎◌, ℕ, List, Bool, true, false, ◌||◌, Option, Some, None}
use Rattle.std.specs.BTreeMap.{BTreeMap, get}
use Rattle.std.specs.Ordering.{nat_cmp}
use Rattle.plfs_types.specs.declared.names.Path.{Path}
use Rattle.container_layout.specs.declared.items.Item.{Item}
use Rattle.container_layout.specs.declared.items.Item.TheVariants.{Access, OpenHost, Meta, Trunc, Flat, TmpFlat, Index, Log, Packed, TmpPacked}
use Rattle.container_layout.specs.Paths.{IsAt}
use Rattle.store_api.specs.declared.tree.Room.{Room}
use Rattle.mount_model.specs.Paths.{Name}
use Rattle.mount_sound.specs.Items.{HasMeta, HasItemOf}
use Rattle.shape_check.specs.declared.finding.Complaint.TheVariants.{TwoHosts}
use Rattle.shape_check.specs.declared.finding.Finding.{Finding}
use Rattle.shape_check.specs.declared.finding.Finding.TheVariants.{Broken, NoMemory}
use Rattle.shape_check.specs.Shape.{IsOneOf}
use Rattle.tree_check.specs.declared.owners.Owner.{Owner}
use Rattle.tree_check.specs.declared.owners.Owned.{Owned}

abbrev pub owned : ℕ → ℕ → Bool → Owned
owned host writer left = record { writer = writer; owner = record { host = host; has_left = left } }

-- whose the item is, if it is an index dropping, a metadata dropping or of those that have the container open
abbrev pub owned_of : Item → Option Owned
owned_of Access = None
owned_of (OpenHost host writer) = Some (owned host writer false)
owned_of (Meta last bytes stamp host writer) = Some (owned host writer true)
owned_of (Trunc stamp size) = None
owned_of (Flat id) = None
owned_of (TmpFlat id) = None
owned_of (Index host writer) = Some (owned host writer false)
owned_of (Log host writer) = None
owned_of (Packed host writer) = None
owned_of (TmpPacked host id) = None

-- the item at the path is this writer's, of this host
abbrev pub IsOwnedAt : Path → Owned → Type 0
IsOwnedAt path o = (item : Item) × IsAt path item × (owned_of item ≡ Some o)

-- whether the writer has left, by what was known before
abbrev pub left_before : Option Owner → Bool
left_before None = false
left_before (Some before) = before.has_left

-- what is known of the writer is of this host too
abbrev pub IsOfHost : Option Owner → ℕ → Type 0
IsOfHost None host = Unit {0}
IsOfHost (Some before) host = before.host ≡ host

-- the item is taken down, and all else stays
pub record Notes (o : Owned) (old new : BTreeMap ℕ Owner) : Type 0 where
  pub same : IsOfHost (get nat_cmp old o.writer) o.owner.host
  pub here : get nat_cmp new o.writer ≡ Some (record { host = o.owner.host; has_left = left_before (get nat_cmp old o.writer) || o.owner.has_left })
  pub others : (writer : ℕ) → writer ≢ o.writer → get nat_cmp new writer ≡ get nat_cmp old writer

-- the item of the path is taken down, if it has one of a writer
abbrev pub NotesAt : Path → BTreeMap ℕ Owner → BTreeMap ℕ Owner → Type 0
NotesAt path old new =
    ((o : Owned) × IsOwnedAt path o × Notes o old new)
    ⊎ (((o : Owned) → IsOwnedAt path o → ⊥) × ((writer : ℕ) → get nat_cmp new writer ≡ get nat_cmp old writer))

-- memory was refused, or what is known of the writer is of another host
abbrev pub IsOfOther : Name → Owned → BTreeMap ℕ Owner → Finding → Type 0
IsOfOther room o owners finding =
    (finding ≡ NoMemory)
    ⊎ ((finding ≡ Broken (TwoHosts room o.writer)) × ((before : Owner) × (get nat_cmp owners o.writer ≡ Some before) × (before.host ≢ o.owner.host)))

abbrev pub IsOfOtherAt : Name → Path → BTreeMap ℕ Owner → Finding → Type 0
IsOfOtherAt room path owners finding = (finding ≡ NoMemory) ⊎ ((o : Owned) × IsOwnedAt path o × IsOfOther room o owners finding)

-- one of the paths is of an item of this writer, of this host; of its metadata dropping, if it is said to have left
abbrev pub IsNoted : List Path → Owned → Type 0
IsNoted paths o = (path : Path) × IsOneOf paths path × IsOwnedAt path o

-- these are just the writers of the items at these paths, with their hosts and with whether they left
pub record AreOwnersAt (paths : List Path) (owners : BTreeMap ℕ Owner) : Type 0 where
  pub known : (o : Owned) → IsNoted paths o → (found : Owner) × (get nat_cmp owners o.writer ≡ Some found) × (found.host ≡ o.owner.host) × (o.owner.has_left ≡ true → found.has_left ≡ true)
  pub some : (writer : ℕ) (found : Owner) → get nat_cmp owners writer ≡ Some found → (left : Bool) × IsNoted paths (owned found.host writer left)
  pub left : (writer : ℕ) (found : Owner) → get nat_cmp owners writer ≡ Some found → found.has_left ≡ true → IsNoted paths (owned found.host writer true)

-- memory was refused, or a writer has items of two hosts
abbrev pub IsTwoHosts : Name → List Path → Finding → Type 0
IsTwoHosts room paths finding =
    (finding ≡ NoMemory)
    ⊎ ((writer : ℕ) × (host : ℕ) × (other : ℕ) × (a : Bool) × (b : Bool) × (finding ≡ Broken (TwoHosts room writer)) × IsNoted paths (owned host writer a) × IsNoted paths (owned other writer b) × (other ≢ host))

-- these are just the writers that have items in the room, with their hosts and with whether they left
pub record AreOwnersOf (owners : BTreeMap ℕ Owner) (room : Room) : Type 0 where
  pub some : (writer : ℕ) (found : Owner) → get nat_cmp owners writer ≡ Some found → HasItemOf room found.host writer
  pub known : (host writer : ℕ) → HasItemOf room host writer → (found : Owner) × (get nat_cmp owners writer ≡ Some found) × (found.host ≡ host)
  pub left : (writer : ℕ) (found : Owner) → get nat_cmp owners writer ≡ Some found → found.has_left ≡ true → HasMeta room found.host writer
  pub gone : (host writer : ℕ) → HasMeta room host writer → (found : Owner) × (get nat_cmp owners writer ≡ Some found) × (found.host ≡ host) × (found.has_left ≡ true)
