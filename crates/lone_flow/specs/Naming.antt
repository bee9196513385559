-- The names of all small files, which a caller reads by itself.
use Rattle.std.specs.Prelude.{◌≡◌, List, map, Result, Ok, Err}
use Rattle.std.specs.List.{flat_map}
use Rattle.mount_model.specs.State.{State}
use Rattle.mount_model.specs.Paths.{Name}
use Rattle.store_api.specs.Names.{in_byte_order}
use Rattle.lone_flow.specs.Driving.{BeginsToMake, Makes}
use Rattle.mount_model.specs.declared.stuck.Stuck.{Stuck as Trouble}
use Rattle.index_reader.specs.declared.opened.OpenReader.{OpenReader}
use Rattle.opening_flow.specs.Opening.{opening_program}
use Rattle.unit_format.specs.declared.finding.Region.{Region}
use Rattle.unit_format.specs.declared.finding.Unit.{Unit as Found}
use Rattle.pack_files.specs.declared.scan.ScanStuck.{ScanStuck}
use Rattle.pack_files.specs.declared.scan.ScanStuck.TheVariants.{Stuck}
use Rattle.lone_flow.specs.Scans.{BeginsToScan, ScansAll}

-- the names of these units
abbrev pub names_of : List Found → List Name
names_of units = map (λ (u : Found). u.name) units

-- the names of all units, in their order
abbrev pub names_in : List Region → List Name
names_in regions = flat_map (λ (r : Region). names_of r.units) regions

-- all regions of the reader's file were scanned, and these are the names in byte order, each once; or a scan ended in the first trouble
abbrev pub NamesIn : OpenReader → State → Result (List Name) ScanStuck → State → Type 0
NamesIn reader start (Ok names) end = (regions : List Region) × ScansAll reader start (Ok regions) end × (names ≡ in_byte_order (names_in regions))
NamesIn reader start (Err why) end = ScansAll reader start (Err why) end

-- Caller 0 by itself opened the container and named its small files; or the opening ended in the first trouble.
pub data Names (name : Name) (start : State) (told : Result (List Name) ScanStuck) (end : State) : Type 0 where
  opens : (reader : OpenReader) (opened : State) → Makes (opening_program name 1) start (Ok reader) opened → NamesIn reader opened told end → Names name start told end
  opens_stuck : (trouble : Trouble) → told ≡ Err (Stuck trouble) → Makes (opening_program name 1) start (Err trouble) end → Names name start told end

-- It was broken off in that, since memory was wanting: in the opening, or behind it in the scans or behind those. Its calls are a front of those.
pub data BeginsToName (name : Name) (start end : State) : Type 0 where
  to_open : BeginsToMake (opening_program name 1) start end → BeginsToName name start end
  to_name : (reader : OpenReader) (opened : State) → Makes (opening_program name 1) start (Ok reader) opened → BeginsToScan reader opened end → BeginsToName name start end
