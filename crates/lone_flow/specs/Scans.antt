-- Scans of one region after the other, which a caller makes by itself.
use Rattle.std.specs.Prelude.{◌≡◌, ◌⊎◌, ℕ, ◌+◌, ◌<◌, ◌≤◌, List, [], ◌∷◌, ◌++◌, length, Option, Some, None, Result, Ok, Err}
use Rattle.mount_model.specs.State.{State}
use Rattle.lone_flow.specs.Driving.{BeginsToMake, Makes}
use Rattle.index_reader.specs.declared.opened.OpenReader.{OpenReader}
use Rattle.unit_format.specs.declared.finding.Region.{Region}
use Rattle.unit_format.specs.declared.units.TheConstants.{REGIONS}
use Rattle.pack_files.specs.declared.scan.ScanStuck.{ScanStuck}
use Rattle.pack_files.specs.Scanning.{scan_program}

-- from this region on, one after the other, scans told these regions
abbrev pub ScansFrom : OpenReader → ℕ → State → List Region → State → Type 0
ScansFrom reader region start [] end = end ≡ start
ScansFrom reader region start (r ∷ regions) end = (next : State) × Makes (scan_program reader region) start (Ok r) next × ScansFrom reader (region + 1) next regions end

-- scans told these regions, the first ones, and that of the next one ended in this trouble
pub record ScansUpTo (reader : OpenReader) (start : State) (why : ScanStuck) (end : State) : Type 0 where
  pub regions : List Region
  pub last : State
  pub few : length regions < REGIONS
  pub scans : ScansFrom reader 0 start regions last
  pub ends : Makes (scan_program reader (length regions)) last (Err why) end

-- all regions, or the first trouble
abbrev pub ScansAll : OpenReader → State → Result (List Region) ScanStuck → State → Type 0
ScansAll reader start (Ok regions) end = (length regions ≡ REGIONS) × ScansFrom reader 0 start regions end
ScansAll reader start (Err why) end = ScansUpTo reader start why end

-- one region more was scanned, or its scan ended in a trouble
abbrev pub AddsScan : OpenReader → ℕ → List Region → List Region → State → Option ScanStuck → State → Type 0
AddsScan reader region old new start None end = (r : Region) × (new ≡ old ++ r ∷ []) × Makes (scan_program reader region) start (Ok r) end
AddsScan reader region old new start (Some why) end = (new ≡ old) × Makes (scan_program reader region) start (Err why) end

-- ---- broken off, since memory was wanting

-- in the scan of one region more, or behind it
abbrev pub BeginsToAddScan : OpenReader → ℕ → State → State → Type 0
BeginsToAddScan reader region start end = BeginsToMake (scan_program reader region) start end ⊎ ((r : Region) × Makes (scan_program reader region) start (Ok r) end)

-- The first regions were scanned. The scan of the next one was broken off, or was not begun, or there is none.
pub data BeginsToScan (reader : OpenReader) (start end : State) : Type 0 where
  to_scan : (regions : List Region) (last : State) → length regions < REGIONS → ScansFrom reader 0 start regions last → BeginsToMake (scan_program reader (length regions)) last end → BeginsToScan reader start end
  behind : (regions : List Region) → length regions ≤ REGIONS → ScansFrom reader 0 start regions end → BeginsToScan reader start end
