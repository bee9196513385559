-- Changes that put small files and do nothing else.
use Rattle.std.specs.Prelude.{◌≡◌, ◌⊎◌, ℕ, ◌+◌, ◌*◌, ◌≤◌, ◌<◌, List, [], ◌∷◌, length}
use Rattle.std.specs.List.{All, AllByRecursion}
use Rattle.index_entry.specs.Records.{IsBytes}
use Rattle.plain_file.specs.declared.changes.Change.{Change}
use Rattle.plain_file.specs.declared.changes.Change.TheVariants.{Write, Truncate}
use Rattle.unit_format.specs.declared.units.TheConstants.{REGIONS, REGION_SIZE}
use Rattle.unit_format.specs.Units.{SmallFile, IsSmallFile, unit_size, unit_spelling, units_spelling}

-- a small file whose content are bytes
pub record IsByteFile (f : SmallFile) : Type 0 where
  pub small : IsSmallFile f
  pub bytes : IsBytes f.content

-- Of each region, the small files whose units stand one behind the other from its start on.
abbrev pub Filing : Type 0
Filing = ℕ → List SmallFile

-- Among the units of these files, which begin at the first place, that of this one stands at the second place.
abbrev pub HasUnitAt : ℕ → List SmallFile → ℕ → SmallFile → Type 0
HasUnitAt from [] place f = ⊥
HasUnitAt from (g ∷ files) place f = ((place ≡ from) × (f ≡ g)) ⊎ HasUnitAt (from + unit_size g) files place f

-- the units of each region are those of files of bytes, and end in it
pub record IsFiling (filing : Filing) : Type 0 where
  pub files : (region : ℕ) → AllByRecursion IsByteFile (filing region)
  pub fits : (region : ℕ) → length (units_spelling (filing region)) ≤ REGION_SIZE

-- the change is a write of one of the units, at its place
abbrev pub PutsUnit : Filing → Change → Type 0
PutsUnit filing (Write entry bytes) = (region : ℕ) × (f : SmallFile) × (region < REGIONS) × HasUnitAt (region * REGION_SIZE) (filing region) entry.at f × (bytes ≡ unit_spelling f)
PutsUnit filing (Truncate t) = ⊥

-- each of the changes puts a unit: there may be some of the units, and no unit overlaps another
pub record AreOnlyUnits (filing : Filing) (changes : List Change) : Type 0 where
  pub is_filing : IsFiling filing
  pub each : All (PutsUnit filing) changes
