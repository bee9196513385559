-- What a later reader is told of units that were packed.
use Rattle.std.specs.Prelude.{◌≡◌, ◌<◌, ℕ, List}
use Rattle.plain_file.specs.declared.changes.Change.{Change}
use Rattle.mount_sound.specs.Ledger.{Written}
use Rattle.unit_format.specs.Units.{SmallFile, unit_spelling}
use Rattle.pack_laws.specs.Scanned.{region_start}
use Rattle.packing_laws.specs.HasOnly.{IsWrittenAt}
use Rattle.packing_laws.specs.OnlyUnits.{Filing, HasUnitAt}

-- each unit of the region that has its place below this one is written
abbrev pub IsBehindWritten : Filing → List Change → ℕ → ℕ → Type 0
IsBehindWritten filing changes region at = (place : ℕ) (f : SmallFile) → HasUnitAt (region_start region) (filing region) place f → place < at → IsWrittenAt changes place f

-- the write puts one of these units, which stand one behind the other from the region's start on
abbrev pub PutsUnitOf : ℕ → List SmallFile → Written → Type 0
PutsUnitOf region files w = (f : SmallFile) × HasUnitAt (region_start region) files w.entry.at f × (w.bytes ≡ unit_spelling f)
