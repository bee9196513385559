-- What is told of all names is so in the file that was seen.
use Rattle.std.proofs.Common.{ℕ, List, Result, Ok, Err}
use Rattle.mount_model.specs.Paths.{Name}
use Rattle.mount_model.specs.State.{State}
use Rattle.index_reader.specs.declared.opened.OpenReader.{OpenReader}
use Rattle.pack_files.specs.declared.scan.ScanStuck.{ScanStuck}
use Rattle.lone_flow.specs.Naming.{NamesIn}
use Rattle.packing_laws.specs.Told.{AreNames}
use Rattle.packing_laws.proofs.Unpacking.Behind.{HasReached}
use Rattle.packing_laws.proofs.Unpacking.Scanning.{ScansTell, all_scanned, scan_stuck}

pub names_so : (reader : OpenReader) (file : List ℕ) (from : State) → ScansTell reader file from → (start : State) (told : Result (List Name) ScanStuck) (end : State) → HasReached from start → NamesIn reader start told end
    → AreNames reader.pieces file from end told
names_so reader file from scans start (Ok names) end reached (regions, all, same) =
    let parts = all_scanned reader file from scans start regions end reached all in
    record { regions = regions; are = parts.0; ordered = same }
names_so reader file from scans start (Err why) end reached stuck = scan_stuck reader file from scans start end why reached stuck
