-- Containers that have only units, as they are at a moment.
use Rattle.std.specs.Prelude.{◌≡◌, ℕ, List, ◌∷◌, ◌++◌, Some, slice_get, take}
use Rattle.std.specs.List.{All, Contains}
use Rattle.plfs_types.specs.declared.entries.Entry.{Entry}
use Rattle.plain_file.specs.declared.changes.Change.{Change}
use Rattle.plain_file.specs.declared.changes.Change.TheVariants.{Write}
use Rattle.plain_file.specs.File.{plain}
use Rattle.container_layout.specs.declared.items.Item.TheVariants.{Trunc}
use Rattle.store_api.specs.declared.tree.Room.{Room}
use Rattle.store_api.specs.declared.tree.Tree.{Tree}
use Rattle.store_laws.specs.There.{IsRoomOf}
use Rattle.mount_model.specs.Paths.{Name}
use Rattle.mount_sound.specs.Items.{HasItem}
use Rattle.mount_sound.specs.Ledger.{Written}
use Rattle.mount_sound.specs.Sound.{IsSoundTree}
use Rattle.unit_format.specs.Regions.{IsRegion}
use Rattle.unit_format.specs.Units.{SmallFile, unit_spelling}
use Rattle.reader_laws.specs.Moments.{Dropping, HadTrunc, Moment, Stood, issued_by, landed}
use Rattle.mount_sound.specs.Ledger.{change_of}
use Rattle.pack_laws.specs.Scanned.{region_bytes, region_start, region_stop}
use Rattle.packing_laws.specs.OnlyUnits.{Filing, HasUnitAt, IsFiling, PutsUnit}

-- No truncate stands in the container, and each write that has landed there puts a unit.
pub record HasOnlyUnits (filing : Filing) (m : Moment) (room : ℕ) : Type 0 where
  pub is_filing : IsFiling filing
  pub writes : (d : Dropping) → d.room ≡ room → Stood m d → All (λ (w : Written). PutsUnit filing (change_of w)) (take (landed m d) (issued_by m d))
  pub no_truncates : (stamp size : ℕ) → HadTrunc m room stamp size → ⊥

-- the container of this name has only units, where there is one
abbrev pub IsOfUnits : Filing → Moment → Name → Type 0
IsOfUnits filing m name = (tree : Tree) (room : ℕ) → m.state.store.tree ≡ Some tree → IsRoomOf tree name room → HasOnlyUnits filing m room

-- one of the changes writes the unit of this file at this place
abbrev pub IsWrittenAt : List Change → ℕ → SmallFile → Type 0
IsWrittenAt changes place f = (entry : Entry) × Contains changes (Write entry (unit_spelling f)) × (entry.at ≡ place)

-- Of a region the changes' file has just the first units: all up to the first that wasn't written. Its scan ends there.
pub record HasFirstUnits (filing : Filing) (changes : List Change) (region : ℕ) : Type 0 where
  pub files : List SmallFile
  pub others : List SmallFile
  pub split : filing region ≡ files ++ others
  pub end : ℕ
  pub has : IsRegion (region_start region) (region_stop region) (region_bytes region (plain changes)) files end
  pub written : (place : ℕ) (f : SmallFile) → HasUnitAt (region_start region) files place f → IsWrittenAt changes place f
  pub next : (f : SmallFile) (more : List SmallFile) → others ≡ f ∷ more → IsWrittenAt changes end f → ⊥

-- ---- in a tree

-- No truncate stands in this container of the tree, and each write that landed there puts a unit.
pub record TreeHasOnlyUnits (filing : Filing) (tree : Tree) (sound : IsSoundTree tree) (number : ℕ) : Type 0 where
  pub is_filing : IsFiling filing
  pub writes : (writer : ℕ) → All (λ (w : Written). PutsUnit filing (change_of w)) (sound.issued number writer)
  pub no_truncates : (room : Room) → slice_get tree.rooms number ≡ Some room → (stamp size : ℕ) (bytes : List ℕ) → HasItem room (Trunc stamp size) bytes → ⊥

-- so it is with the container of this name, where there is one
abbrev pub TreeIsOfUnits : Filing → (tree : Tree) → IsSoundTree tree → Name → Type 0
TreeIsOfUnits filing tree sound name = (number : ℕ) → IsRoomOf tree name number → TreeHasOnlyUnits filing tree sound number
