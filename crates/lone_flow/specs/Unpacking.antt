-- A small file that a caller reads by itself.
use Rattle.std.specs.Prelude.{◌≡◌, ℕ, min, List, Option, Some, None, Result, Ok, Err}
use Rattle.mount_model.specs.State.{State}
use Rattle.mount_model.specs.Paths.{Name}
use Rattle.mount_model.specs.Program.{Program}
use Rattle.mount_model.specs.declared.call.Call.{Call}
use Rattle.mount_model.specs.declared.reply.Reply.{Reply}
use Rattle.lone_flow.specs.Driving.{BeginsToMake, Makes}
use Rattle.mount_model.specs.declared.stuck.Stuck.{Stuck as Trouble}
use Rattle.read_plan.specs.Plan.{plan_of}
use Rattle.index_reader.specs.declared.opened.OpenReader.{OpenReader}
use Rattle.index_reader.specs.Reading.{read_program}
use Rattle.opening_flow.specs.Opening.{opening_program}
use Rattle.unit_format.specs.declared.finding.Region.{Region}
use Rattle.unit_format.specs.declared.finding.Unit.{Unit as Found}
use Rattle.unit_format.specs.declared.units.TheConstants.{MAX_CONTENT}
use Rattle.unit_format.specs.Finding.{IsFound}
use Rattle.pack_files.specs.declared.scan.ScanStuck.{ScanStuck}
use Rattle.pack_files.specs.declared.scan.ScanStuck.TheVariants.{Stuck}
use Rattle.lone_flow.specs.Scans.{BeginsToScan, ScansAll}

-- ---- the content of a unit

-- the calls that read a unit's content, of at most 2^20 bytes
abbrev pub unit_program : OpenReader → Found → Program Call Reply (Result (List ℕ) Trouble)
unit_program reader unit = read_program reader.room reader.hosts (plan_of reader.pieces reader.size unit.at (min unit.len MAX_CONTENT))

abbrev pub ReadsUnit : OpenReader → Found → State → Result (List ℕ) Trouble → State → Type 0
ReadsUnit reader unit start read end = Makes (unit_program reader unit) start read end

-- what was told of the unit that was found: its content, or nothing where there is none
abbrev pub ReadsFound : OpenReader → Option Found → State → Result (Option (List ℕ)) ScanStuck → State → Type 0
ReadsFound reader None start told end = (told ≡ Ok None) × (end ≡ start)
ReadsFound reader (Some unit) start (Ok None) end = ⊥
ReadsFound reader (Some unit) start (Ok (Some content)) end = ReadsUnit reader unit start (Ok content) end
ReadsFound reader (Some unit) start (Err why) end = (trouble : Trouble) × (why ≡ Stuck trouble) × ReadsUnit reader unit start (Err trouble) end

-- ---- the file of a name

-- All regions of the reader's file were scanned, and the unit that counts was read; or a scan ended in the first trouble.
pub data ReadsIn (reader : OpenReader) (file : Name) (start : State) (told : Result (Option (List ℕ)) ScanStuck) (end : State) : Type 0 where
  reads : (regions : List Region) (scanned : State) (found : Option Found) → ScansAll reader start (Ok regions) scanned → IsFound regions file found → ReadsFound reader found scanned told end
      → ReadsIn reader file start told end
  scans_stuck : (why : ScanStuck) → told ≡ Err why → ScansAll reader start (Err why) end → ReadsIn reader file start told end

-- Caller 0 by itself opened the container, and read the small file of this name, or found none; or the opening ended in the
-- first trouble.
pub data Unpacks (name file : Name) (start : State) (told : Result (Option (List ℕ)) ScanStuck) (end : State) : Type 0 where
  opens : (reader : OpenReader) (opened : State) → Makes (opening_program name 1) start (Ok reader) opened → ReadsIn reader file opened told end → Unpacks name file start told end
  opens_stuck : (trouble : Trouble) → told ≡ Err (Stuck trouble) → Makes (opening_program name 1) start (Err trouble) end → Unpacks name file start told end

-- ---- broken off, since memory was wanting

-- in the read of the unit that was found; where there is none nothing is read
abbrev pub BeginsToReadFound : OpenReader → Option Found → State → State → Type 0
BeginsToReadFound reader None start end = ⊥
BeginsToReadFound reader (Some unit) start end = BeginsToMake (unit_program reader unit) start end

-- In the scans, or behind all of them in the read of the unit that counts.
pub data BeginsToReadIn (reader : OpenReader) (file : Name) (start end : State) : Type 0 where
  to_scan : BeginsToScan reader start end → BeginsToReadIn reader file start end
  to_read : (regions : List Region) (scanned : State) (found : Option Found) → ScansAll reader start (Ok regions) scanned → IsFound regions file found → BeginsToReadFound reader found scanned end → BeginsToReadIn reader file start end

-- In the opening, or behind it in the scans or in the read. Its calls are a front of those.
pub data BeginsToUnpack (name file : Name) (start end : State) : Type 0 where
  to_open : BeginsToMake (opening_program name 1) start end → BeginsToUnpack name file start end
  to_unpack : (reader : OpenReader) (opened : State) → Makes (opening_program name 1) start (Ok reader) opened → BeginsToReadIn reader file opened end → BeginsToUnpack name file start end
