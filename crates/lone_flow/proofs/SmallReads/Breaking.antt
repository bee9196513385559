-- What a reading of small files that was broken off comes to, by what each part came to.
use Rattle.std.proofs.Common.{◌≡◌, inl, inr, ℕ, ◌+◌, ◌<◌, ◌≤◌, List, [], ◌∷◌, ◌++◌, length, Option, Some, None, Result, Ok, Err, sym, subst, arith}
use Rattle.std.specs.Prelude.{OnErr}
use Rattle.std.proofs.lemmas.List.{length-append}
use Rattle.plfs_types.specs.declared.memory.NoMemory.{NoMemory}
use Rattle.mount_model.specs.declared.stuck.Stuck.{Stuck as Trouble}
use Rattle.mount_model.specs.State.{State}
use Rattle.mount_model.specs.Paths.{Name}
use Rattle.lone_flow.specs.Driving.{BeginsToMake, Makes}
use Rattle.index_reader.specs.declared.opened.OpenReader.{OpenReader}
use Rattle.opening_flow.specs.Opening.{opening_program}
use Rattle.unit_format.specs.declared.finding.Region.{Region}
use Rattle.unit_format.specs.declared.finding.Unit.{Unit as Found}
use Rattle.unit_format.specs.declared.units.TheConstants.{REGIONS}
use Rattle.unit_format.specs.Finding.{IsFound}
use Rattle.pack_files.specs.declared.scan.ScanStuck.{ScanStuck}
use Rattle.pack_files.specs.Scanning.{scan_program}
use Rattle.lone_flow.specs.Naming.{BeginsToName, to_name}
use Rattle.lone_flow.specs.Scans.{BeginsToAddScan, BeginsToScan, ScansAll, ScansFrom, behind, to_scan}
use Rattle.lone_flow.specs.Unpacking.{BeginsToReadFound, BeginsToReadIn, BeginsToUnpack, to_read, to_unpack, unit_program}
use Rattle.lone_flow.proofs.SmallReads.Scanned.{scans_more}

-- ---- the scans

pub scan_broken : (reader : OpenReader) (start mid end : State) (regions : List Region) (region : ℕ) → length regions ≡ region → region < REGIONS → ScansFrom reader 0 start regions mid → BeginsToAddScan reader region mid end → BeginsToScan reader start end
scan_broken reader start mid end regions region is few scans (inl begins) =
    to_scan regions mid (omega (arith, is, few)) scans (subst (λ (n : ℕ). BeginsToMake (scan_program reader n) mid end) (sym is) begins)
scan_broken reader start mid end regions region is few scans (inr (r, makes)) =
    let longer : length (regions ++ r ∷ []) ≡ length regions + 1 = length-append regions (r ∷ []) in
    behind (regions ++ r ∷ []) (omega (arith, longer, is, few)) (scans_more reader 0 region start regions mid r end (omega (arith, is)) scans makes)

-- behind all of them
pub behind_all : (reader : OpenReader) (start end : State) (regions : List Region) → ScansAll reader start (Ok regions) end → BeginsToScan reader start end
behind_all reader start end regions (all, scans) = behind regions (omega (arith, all)) scans

-- ---- one small file

pub found_broken : (reader : OpenReader) (file : Name) (start scanned end : State) (regions : List Region) (found : Option Found) (result : Result (Result (Option (List ℕ)) ScanStuck) NoMemory)
    → ScansAll reader start (Ok regions) scanned → IsFound regions file found → OnErr result (BeginsToReadFound reader found scanned end) → OnErr result (BeginsToReadIn reader file start end)
found_broken reader file start scanned end regions found (Ok told) scans is begins = tt
found_broken reader file start scanned end regions found (Err why) scans is begins = to_read regions scanned found scans is begins

-- ---- behind the opening

pub unpack_broken : (name file : Name) (reader : OpenReader) (start opened end : State) (result : Result (Result (Option (List ℕ)) ScanStuck) NoMemory)
    → Makes (opening_program name 1) start (Ok reader) opened → OnErr result (BeginsToReadIn reader file opened end) → OnErr result (BeginsToUnpack name file start end)
unpack_broken name file reader start opened end (Ok told) makes begins = tt
unpack_broken name file reader start opened end (Err why) makes begins = to_unpack reader opened makes begins

pub names_broken : (name : Name) (reader : OpenReader) (start opened end : State) (result : Result (Result (List Name) ScanStuck) NoMemory)
    → Makes (opening_program name 1) start (Ok reader) opened → OnErr result (BeginsToScan reader opened end) → OnErr result (BeginsToName name start end)
names_broken name reader start opened end (Ok told) makes begins = tt
names_broken name reader start opened end (Err why) makes begins = to_name reader opened makes begins
