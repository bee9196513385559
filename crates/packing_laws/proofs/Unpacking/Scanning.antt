-- Scans of one region after the other tell the regions of the file.
use Rattle.std.proofs.Common.{◌≡◌, ℕ, ◌+◌, ◌≤◌, ◌<◌, List, [], ◌∷◌, ◌++◌, length, Result, Ok, Err, sym, subst, arith}
use Rattle.mount_model.specs.History.{Event, state_after}
use Rattle.mount_model.specs.State.{State}
use Rattle.mount_sound.specs.Owed.{IsLawful}
use Rattle.mount_sound.proofs.Facts.{lawful_rest}
use Rattle.mount_model.specs.declared.stuck.Stuck.{Stuck as Trouble}
use Rattle.mount_model.specs.Running.{Runs}
use Rattle.lone_flow.specs.Driving.{Makes}
use Rattle.index_reader.specs.declared.opened.OpenReader.{OpenReader}
use Rattle.reader_laws.specs.Failing.{FailsByStore}
use Rattle.reader_laws.proofs.Facts.{fails_first, fails_rest}
use Rattle.unit_format.specs.declared.finding.Region.{Region}
use Rattle.unit_format.specs.declared.units.TheConstants.{REGIONS}
use Rattle.pack_files.specs.declared.scan.ScanStuck.{ScanStuck}
use Rattle.pack_files.specs.declared.scan.ScanStuck.TheVariants.{Bad, Stuck}
use Rattle.pack_files.specs.Scanning.{scan_program}
use Rattle.pack_laws.specs.Scanned.{HasFailed, IsScanOf}
use Rattle.lone_flow.specs.Scans.{ScansAll, ScansFrom}
use Rattle.packing_laws.specs.Told.{AreRegions, AreRegionsFrom, FailsUntil, IsTroubleOf}
use Rattle.packing_laws.proofs.Unpacking.Behind.{Follows, HasReached, follows, reached_by}

-- what the law of a scan says of this reader, whose file this is, from this state on
abbrev pub ScansTell : OpenReader → List ℕ → State → Type 0
ScansTell reader file from = (region : ℕ) (between scanning : List Event) (told : Result Region ScanStuck) → region < REGIONS → IsLawful from (between ++ scanning) → Runs 0 (scan_program reader region) scanning told
    → IsScanOf 0 (state_after from between) reader.pieces region file scanning told

-- a failure behind some calls
pub failed : (from end : State) (waited mine : List Event) (why : Trouble) → IsLawful from (waited ++ mine) → state_after from (waited ++ mine) ≡ end → FailsByStore 0 (state_after from waited) mine why → FailsUntil from end why
failed from end waited mine why lawful ends fails = record { events = waited ++ mine; lawful = lawful; ends = ends; fails = fails_rest 0 from waited mine why lawful fails }

-- a failure among the calls of a scan
scan_failed : (from : State) (scanning : List Event) (why : Trouble) → IsLawful from scanning → HasFailed 0 from scanning why → FailsByStore 0 from scanning why
scan_failed from scanning why lawful f =
    let all : IsLawful from (f.before ++ (f.reading ++ f.later)) = subst (λ (es : List Event). IsLawful from es) f.split lawful in
    let on : IsLawful (state_after from f.before) (f.reading ++ f.later) = lawful_rest from f.before (f.reading ++ f.later) all in
    subst (λ (es : List Event). FailsByStore 0 from es why) (sym f.split)
    (fails_rest 0 from f.before (f.reading ++ f.later) why all (fails_first 0 (state_after from f.before) f.reading f.later why on f.fails))

module _ (reader : OpenReader) (file : List ℕ) (from : State) (tell : ScansTell reader file from) where
  pub scans_from : (region : ℕ) (start : State) (regions : List Region) (end : State) → region + length regions ≤ REGIONS → HasReached from start → ScansFrom reader region start regions end
      → AreRegionsFrom reader.pieces file region regions × HasReached from end
  scans_from region start [] end few reached same = (tt, subst (λ (s : State). HasReached from s) (sym same) reached)
  scans_from region start (r ∷ regions) end few reached (next, makes, others) =
      let f : Follows from (scan_program reader region) (Ok r) next = follows from start next (scan_program reader region) (Ok r) reached makes in
      let more = scans_from (region + 1) next regions end (omega (arith, few)) (reached_by from next (scan_program reader region) (Ok r) f) others in
      ((tell region f.waited f.mine (Ok r) (omega (arith, few)) f.lawful f.runs, more.0), more.1)

  trouble_of : (regions : List Region) (last end : State) (why : ScanStuck) → length regions < REGIONS → AreRegionsFrom reader.pieces file 0 regions → HasReached from last → Makes (scan_program reader (length regions)) last (Err why) end
      → IsTroubleOf reader.pieces file from end why
  trouble_of regions last end (Bad place) few are reached makes =
      let f : Follows from (scan_program reader (length regions)) (Err (Bad place)) end = follows from last end (scan_program reader (length regions)) (Err (Bad place)) reached makes in
      record { regions = regions; are = are; bad = tell (length regions) f.waited f.mine (Err (Bad place)) few f.lawful f.runs }
  trouble_of regions last end (Stuck why) few are reached makes =
      let f : Follows from (scan_program reader (length regions)) (Err (Stuck why)) end = follows from last end (scan_program reader (length regions)) (Err (Stuck why)) reached makes in
      failed from end f.waited f.mine why f.lawful f.ends
      (scan_failed (state_after from f.waited) f.mine why (lawful_rest from f.waited f.mine f.lawful) (tell (length regions) f.waited f.mine (Err (Stuck why)) few f.lawful f.runs))

  pub all_scanned : (start : State) (regions : List Region) (end : State) → HasReached from start → ScansAll reader start (Ok regions) end → AreRegions reader.pieces file regions × HasReached from end
  all_scanned start regions end reached (all, scans) =
      let parts = scans_from 0 start regions end (omega (arith, all)) reached scans in
      (record { all = all; each = parts.0 }, parts.1)

  pub scan_stuck : (start end : State) (why : ScanStuck) → HasReached from start → ScansAll reader start (Err why) end → IsTroubleOf reader.pieces file from end why
  scan_stuck start end why reached up =
      let parts = scans_from 0 start up.regions up.last (omega (arith, up.few)) reached up.scans in
      trouble_of up.regions up.last end why up.few parts.0 parts.1 up.ends
