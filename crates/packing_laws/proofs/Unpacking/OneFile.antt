-- One file that was seen, and what is told of it.
use Rattle.std.proofs.Common.{◌≡◌, ℕ, ◌<◌, List, ◌++◌, Option, Result, Ok, Err}
use Rattle.index_entry.specs.Records.{IsBytes}
use Rattle.plain_file.specs.File.{slice}
use Rattle.plain_file.specs.declared.pieces.Piece.{Piece}
use Rattle.read_plan.specs.Plan.{plan_of}
use Rattle.mount_model.specs.History.{Event, state_after}
use Rattle.mount_model.specs.Paths.{Name}
use Rattle.mount_model.specs.State.{State}
use Rattle.mount_sound.specs.Owed.{IsLawful}
use Rattle.mount_model.specs.declared.stuck.Stuck.{Stuck as Trouble}
use Rattle.mount_model.specs.Running.{Runs}
use Rattle.index_reader.specs.declared.opened.OpenReader.{OpenReader}
use Rattle.index_reader.specs.Reading.{read_program}
use Rattle.reader_laws.specs.Gathering.{Gathered}
use Rattle.reader_laws.specs.Moments.{Moment, IsSoundAt, moment_after}
use Rattle.reader_laws.specs.View.{view}
use Rattle.reader_laws.specs.Failing.{FailsByStore}
use Rattle.reader_laws.specs.Opened.{HasOpenReader, HasOpenedIn}
use Rattle.unit_format.specs.declared.finding.Region.{Region}
use Rattle.unit_format.specs.declared.units.TheConstants.{REGIONS}
use Rattle.pack_files.specs.declared.scan.ScanStuck.{ScanStuck}
use Rattle.pack_files.specs.Scanning.{scan_program}
use Rattle.pack_laws.specs.Scanned.{IsScanOf}
use Rattle.lone_flow.specs.Naming.{Names}
use Rattle.lone_flow.specs.Naming as naming
use Rattle.lone_flow.specs.Unpacking.{Unpacks, opens, opens_stuck}
use Rattle.packing_laws.specs.Seen.{Sees, file_seen, moment_seen}
use Rattle.packing_laws.specs.Told.{AreNames, IsContent}
use Rattle.packing_laws.proofs.Unpacking.Naming.{names_so}
use Rattle.packing_laws.proofs.Unpacking.Openings.{OpeningsEnd, saw, saw_none}
use Rattle.packing_laws.proofs.Unpacking.Scanning.{ScansTell}
use Rattle.packing_laws.proofs.Unpacking.Unpacking.{ReadsFail, ReadsTell, content_so}

-- what the law of a scan says
abbrev pub ScanLaw : Type 0
ScanLaw = (caller region : ℕ) (start end : Moment) (reader : OpenReader) (cut : List Gathered) (between scanning : List Event) (told : Result Region ScanStuck)
    → region < REGIONS → IsLawful end.state (between ++ scanning) → IsSoundAt end → HasOpenReader start end reader cut → IsBytes (view end cut reader.truncs) → Runs caller (scan_program reader region) scanning told
    → IsScanOf caller (state_after end.state between) reader.pieces region (view end cut reader.truncs) scanning told

-- what the law of reads says of their bytes, and of their troubles
abbrev pub ReadLaw : Type 0
ReadLaw = (caller : ℕ) (start end : Moment) (reader : OpenReader) (cut : List Gathered) (between reading : List Event) (at len : ℕ) (bytes : List ℕ)
    → IsLawful end.state (between ++ reading) → IsSoundAt end → HasOpenReader start end reader cut → Runs caller (read_program reader.room reader.hosts (plan_of reader.pieces reader.size at len)) reading (Ok bytes)
    → bytes ≡ slice (view end cut reader.truncs) at len

abbrev pub ReadTrouble : Type 0
ReadTrouble = (caller : ℕ) (start end : Moment) (reader : OpenReader) (cut : List Gathered) (between reading : List Event) (at len : ℕ) (why : Trouble)
    → IsLawful end.state (between ++ reading) → IsSoundAt end → HasOpenReader start end reader cut → Runs caller (read_program reader.room reader.hosts (plan_of reader.pieces reader.size at len)) reading (Err why)
    → FailsByStore caller (state_after end.state between) reading why

module _ (begun : Moment) (opening : List Event) (reader : OpenReader) (o : HasOpenedIn 0 begun opening reader) (sound : IsSoundAt (moment_seen begun opening reader o)) where
  abbrev pub seen : Moment
  seen = moment_seen begun opening reader o

  pub scans_tell : ScanLaw → IsBytes (file_seen begun opening reader o) → ScansTell reader (file_seen begun opening reader o) seen.state
  scans_tell law are = λ region between scanning told known lawful runs. law 0 region (moment_after begun o.before) seen reader o.cut between scanning told known lawful sound o.has are runs

  pub reads_tell : ReadLaw → ReadsTell reader (file_seen begun opening reader o) seen.state
  reads_tell law = λ between reading at len bytes lawful runs. law 0 (moment_after begun o.before) seen reader o.cut between reading at len bytes lawful sound o.has runs

  pub reads_fail : ReadTrouble → ReadsFail reader seen.state
  reads_fail law = λ between reading at len why lawful runs. law 0 (moment_after begun o.before) seen reader o.cut between reading at len why lawful sound o.has runs

pub unpacked : OpeningsEnd → ScanLaw → ReadLaw → ReadTrouble → (name file : Name) (start : Moment) (told : Result (Option (List ℕ)) ScanStuck) (end : State) → IsSoundAt start → Unpacks name file start.state told end
    → Sees start told (λ pieces bytes from. IsContent pieces bytes file from end told)
unpacked opening_law scan_law read_law trouble_law name file start told end sound (opens reader at makes read) =
    saw opening_law name start told (λ (pieces : List Piece) (bytes : List ℕ) (from : State). IsContent pieces bytes file from end told) sound reader at makes
    (λ begun opening o s are. content_so reader (file_seen begun opening reader o) (moment_seen begun opening reader o).state file (scans_tell begun opening reader o s.sound scan_law are) (reads_tell begun opening reader o s.sound read_law)
    (reads_fail begun opening reader o s.sound trouble_law) at told end s.reached read)
unpacked opening_law scan_law read_law trouble_law name file start told end sound (opens_stuck why same makes) =
    saw_none opening_law name start told (λ (pieces : List Piece) (bytes : List ℕ) (from : State). IsContent pieces bytes file from end told) sound why end makes same

pub named : OpeningsEnd → ScanLaw → (name : Name) (start : Moment) (told : Result (List Name) ScanStuck) (end : State) → IsSoundAt start → Names name start.state told end
    → Sees start told (λ pieces bytes from. AreNames pieces bytes from end told)
named opening_law scan_law name start told end sound (naming.opens reader at makes names) =
    saw opening_law name start told (λ (pieces : List Piece) (bytes : List ℕ) (from : State). AreNames pieces bytes from end told) sound reader at makes
    (λ begun opening o s are. names_so reader (file_seen begun opening reader o) (moment_seen begun opening reader o).state (scans_tell begun opening reader o s.sound scan_law are) at told end s.reached names)
named opening_law scan_law name start told end sound (naming.opens_stuck why same makes) =
    saw_none opening_law name start told (λ (pieces : List Piece) (bytes : List ℕ) (from : State). AreNames pieces bytes from end told) sound why end makes same
