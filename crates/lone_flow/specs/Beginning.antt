-- Where a caller by itself puts the first small file.
use Rattle.std.specs.Prelude.{◌≡◌, ◌≢◌, ◌⊎◌, ℕ, ◌+◌, ◌*◌, min, max, Result, Ok, Err}
use Rattle.mount_model.specs.State.{State}
use Rattle.mount_model.specs.Paths.{Name}
use Rattle.mount_model.specs.declared.reply.Refusal.TheVariants.{NoRoom}
use Rattle.lone_flow.specs.Driving.{BeginsToMake, Makes}
use Rattle.mount_model.specs.declared.stuck.Stuck.{Stuck as Trouble}
use Rattle.mount_model.specs.declared.stuck.Stuck.TheVariants.{Refused}
use Rattle.index_reader.specs.declared.opened.OpenReader.{OpenReader}
use Rattle.opening_flow.specs.Opening.{opening_program}
use Rattle.unit_format.specs.declared.finding.Region.{Region}
use Rattle.unit_format.specs.declared.units.TheConstants.{REGION_SIZE}
use Rattle.pack_files.specs.declared.scan.ScanStuck.{ScanStuck}
use Rattle.pack_files.specs.declared.scan.ScanStuck.TheVariants.{Stuck}
use Rattle.pack_files.specs.Scanning.{scan_program}

-- the place, or the nearer end of the region
abbrev pub within_region : ℕ → ℕ → ℕ
within_region region place = min (max place (region * REGION_SIZE)) ((region + 1) * REGION_SIZE)

-- behind the units that the region has, or the trouble of its scan
abbrev pub ScansFor : OpenReader → ℕ → State → Result ℕ ScanStuck → State → Type 0
ScansFor reader region start (Ok place) end = (r : Region) × Makes (scan_program reader region) start (Ok r) end × (place ≡ within_region region r.end)
ScansFor reader region start (Err why) end = Makes (scan_program reader region) start (Err why) end

-- at the region's start where the container isn't there, or the opening's other trouble
abbrev pub BeginsWithout : ℕ → Trouble → Result ℕ ScanStuck → Type 0
BeginsWithout region why told = ((why ≡ Refused NoRoom) × (told ≡ Ok (region * REGION_SIZE))) ⊎ ((why ≢ Refused NoRoom) × (told ≡ Err (Stuck why)))

-- Behind the units that the region has, or at its start where the container isn't there; or the first trouble.
pub data BeginsAt (name : Name) (region : ℕ) (start : State) (told : Result ℕ ScanStuck) (end : State) : Type 0 where
  opens : (reader : OpenReader) (opened : State) → Makes (opening_program name 1) start (Ok reader) opened → ScansFor reader region opened told end → BeginsAt name region start told end
  opens_none : (why : Trouble) → Makes (opening_program name 1) start (Err why) end → BeginsWithout region why told → BeginsAt name region start told end

-- It was broken off in that: in the opening, or behind it in the scan. Its calls are a front of those.
pub data BeginsToFindPlace (name : Name) (region : ℕ) (start end : State) : Type 0 where
  to_open : BeginsToMake (opening_program name 1) start end → BeginsToFindPlace name region start end
  to_scan : (reader : OpenReader) (opened : State) → Makes (opening_program name 1) start (Ok reader) opened → BeginsToMake (scan_program reader region) opened end → BeginsToFindPlace name region start end
