-- What is told of one small file is so in the file that was seen.
use Rattle.std.proofs.Common.{◌≡◌, ℕ, min, List, ◌++◌, Option, Some, None, Result, Ok, Err, sym, subst}
use Rattle.plain_file.specs.File.{slice}
use Rattle.read_plan.specs.Plan.{plan_of}
use Rattle.mount_model.specs.History.{Event, state_after}
use Rattle.mount_model.specs.Paths.{Name}
use Rattle.mount_model.specs.State.{State}
use Rattle.mount_sound.specs.Owed.{IsLawful}
use Rattle.mount_model.specs.declared.stuck.Stuck.{Stuck as Trouble}
use Rattle.mount_model.specs.Running.{Runs}
use Rattle.index_reader.specs.declared.opened.OpenReader.{OpenReader}
use Rattle.index_reader.specs.Reading.{read_program}
use Rattle.reader_laws.specs.Failing.{FailsByStore}
use Rattle.unit_format.specs.declared.finding.Region.{Region}
use Rattle.unit_format.specs.declared.finding.Unit.{Unit as Found}
use Rattle.unit_format.specs.declared.units.TheConstants.{MAX_CONTENT}
use Rattle.unit_format.specs.Finding.{IsFileOf, IsFound}
use Rattle.pack_files.specs.declared.scan.ScanStuck.{ScanStuck}
use Rattle.lone_flow.specs.Unpacking.{ReadsFound, ReadsIn, reads, scans_stuck}
use Rattle.packing_laws.specs.Told.{AreRegions, AreRegionsFrom, HasContent, IsContent}
use Rattle.packing_laws.proofs.Unpacking.Behind.{HasReached, follows}
use Rattle.packing_laws.proofs.Unpacking.Scanning.{ScansTell, all_scanned, failed, scan_stuck}
use Rattle.packing_laws.proofs.Unpacking.Units.{region_there, unit_stands}

-- what the law of reads says of this reader, whose file this is, from this state on
abbrev pub ReadsTell : OpenReader → List ℕ → State → Type 0
ReadsTell reader file from = (between reading : List Event) (at len : ℕ) (bytes : List ℕ) → IsLawful from (between ++ reading) → Runs 0 (read_program reader.room reader.hosts (plan_of reader.pieces reader.size at len)) reading (Ok bytes)
    → bytes ≡ slice file at len

abbrev pub ReadsFail : OpenReader → State → Type 0
ReadsFail reader from = (between reading : List Event) (at len : ℕ) (why : Trouble) → IsLawful from (between ++ reading) → Runs 0 (read_program reader.room reader.hosts (plan_of reader.pieces reader.size at len)) reading (Err why)
    → FailsByStore 0 (state_after from between) reading why

module _ (reader : OpenReader) (file : List ℕ) (from : State) (name : Name) (scans : ScansTell reader file from) (tell : ReadsTell reader file from) (fail : ReadsFail reader from) where
  content_of : (regions : List Region) (u : Found) (content : List ℕ) → AreRegions reader.pieces file regions → IsFileOf regions name u → content ≡ slice file u.at (min u.len MAX_CONTENT) → HasContent reader.pieces file name content
  content_of regions u content are is read =
      let there = region_there reader.pieces file 0 is.before is.region is.behind (subst (λ (rs : List Region). AreRegionsFrom reader.pieces file 0 rs) is.split are.each) in
      record { regions = regions; are = are; unit = u; counts = is; stands = unit_stands reader.pieces there.0 file is.region u name content there.1 is.newest.there is.newest.named read }

  found_so : (regions : List Region) (found : Option Found) (scanned : State) (told : Result (Option (List ℕ)) ScanStuck) (end : State) → AreRegions reader.pieces file regions → HasReached from scanned → IsFound regions name found
      → ReadsFound reader found scanned told end → IsContent reader.pieces file name from end told
  found_so regions None scanned told end are reached none (same, over) =
      subst (λ (t : Result (Option (List ℕ)) ScanStuck). IsContent reader.pieces file name from end t) (sym same) (record { regions = regions; are = are; none = none })
  found_so regions (Some u) scanned (Ok None) end are reached is read = absurd read
  found_so regions (Some u) scanned (Ok (Some content)) end are reached is read =
      let f = follows from scanned end (read_program reader.room reader.hosts (plan_of reader.pieces reader.size u.at (min u.len MAX_CONTENT))) (Ok content) reached read in
      content_of regions u content are is (tell f.waited f.mine u.at (min u.len MAX_CONTENT) content f.lawful f.runs)
  found_so regions (Some u) scanned (Err why) end are reached is (trouble, same, read) =
      let f = follows from scanned end (read_program reader.room reader.hosts (plan_of reader.pieces reader.size u.at (min u.len MAX_CONTENT))) (Err trouble) reached read in
      subst (λ (w : ScanStuck). IsContent reader.pieces file name from end (Err w)) (sym same)
      (failed from end f.waited f.mine trouble f.lawful f.ends (fail f.waited f.mine u.at (min u.len MAX_CONTENT) trouble f.lawful f.runs))

  pub content_so : (start : State) (told : Result (Option (List ℕ)) ScanStuck) (end : State) → HasReached from start → ReadsIn reader name start told end → IsContent reader.pieces file name from end told
  content_so start told end reached (reads regions scanned found all is read) =
      let parts = all_scanned reader file from scans start regions scanned reached all in
      found_so regions found scanned told end parts.0 parts.1 is read
  content_so start told end reached (scans_stuck why same stuck) =
      subst (λ (t : Result (Option (List ℕ)) ScanStuck). IsContent reader.pieces file name from end t) (sym same) (scan_stuck reader file from scans start end why reached stuck)
