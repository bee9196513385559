-- What is told of a small file, and of all names, by what each part told.
use Rattle.std.proofs.Common.{◌≡◌, ℕ, List, Option, Result, Ok, Err, subst}
use Rattle.std.specs.Prelude.{IfOk}
use Rattle.plfs_types.specs.declared.memory.NoMemory.{NoMemory}
use Rattle.mount_model.specs.declared.stuck.Stuck.{Stuck as Trouble}
use Rattle.mount_model.specs.State.{State}
use Rattle.mount_model.specs.Paths.{Name}
use Rattle.lone_flow.specs.Driving.{Makes}
use Rattle.index_reader.specs.declared.opened.OpenReader.{OpenReader}
use Rattle.opening_flow.specs.Opening.{opening_program}
use Rattle.unit_format.specs.declared.finding.Region.{Region}
use Rattle.unit_format.specs.declared.finding.Unit.{Unit as Found}
use Rattle.unit_format.specs.Finding.{IsFound}
use Rattle.pack_files.specs.declared.scan.ScanStuck.{ScanStuck}
use Rattle.lone_flow.specs.Naming.{Names, NamesIn}
use Rattle.lone_flow.specs.Naming as naming
use Rattle.lone_flow.specs.Scans.{ScansAll}
use Rattle.lone_flow.specs.Unpacking.{ReadsFound, ReadsIn, Unpacks, opens, reads}

pub found_told : (reader : OpenReader) (file : Name) (start scanned end : State) (regions : List Region) (found : Option Found) (result : Result (Result (Option (List ℕ)) ScanStuck) NoMemory)
    → ScansAll reader start (Ok regions) scanned → IsFound regions file found → IfOk result (λ told. ReadsFound reader found scanned told end) → IfOk result (λ told. ReadsIn reader file start told end)
found_told reader file start scanned end regions found (Ok told) scans is read = reads regions scanned found scans is read
found_told reader file start scanned end regions found (Err why) scans is read = tt

pub opened_told : (name file : Name) (reader : OpenReader) (start opened end : State) (result : Result (Result (Option (List ℕ)) ScanStuck) NoMemory)
    → Makes (opening_program name 1) start (Ok reader) opened → IfOk result (λ told. ReadsIn reader file opened told end) → IfOk result (λ told. Unpacks name file start told end)
opened_told name file reader start opened end (Ok told) makes read = opens reader opened makes read
opened_told name file reader start opened end (Err why) makes read = tt

pub opened_named : (name : Name) (reader : OpenReader) (start opened end : State) (result : Result (Result (List Name) ScanStuck) NoMemory)
    → Makes (opening_program name 1) start (Ok reader) opened → IfOk result (λ told. NamesIn reader opened told end) → IfOk result (λ told. Names name start told end)
opened_named name reader start opened end (Ok told) makes named = naming.opens reader opened makes named
opened_named name reader start opened end (Err why) makes named = tt

-- ---- what was told, by another name

pub makes_value : (name : Name) (start : State) (told other : Result OpenReader Trouble) (end : State) → told ≡ other → Makes (opening_program name 1) start told end → Makes (opening_program name 1) start other end
makes_value name start told other end same makes = subst (λ (r : Result OpenReader Trouble). Makes (opening_program name 1) start r end) same makes

pub scans_value : (reader : OpenReader) (start : State) (told other : Result (List Region) ScanStuck) (end : State) → told ≡ other → ScansAll reader start told end → ScansAll reader start other end
scans_value reader start told other end same scans = subst (λ (r : Result (List Region) ScanStuck). ScansAll reader start r end) same scans
