-- What a reader of units alone sees of a region, and is told of it.
use Rattle.std.proofs.Common.{◌≡◌, ℕ, ◌+◌, ◌-◌, ◌<◌, List, ◌++◌, Result, Err, subst, arith}
use Rattle.index_entry.specs.Records.{IsBytes}
use Rattle.plfs_types.specs.declared.entries.Trunc.{Trunc}
use Rattle.plain_file.specs.File.{slice}
use Rattle.plain_file.specs.declared.changes.Change.TheVariants.{Write}
use Rattle.plain_file.proofs.Facts.{Contains-from_Among}
use Rattle.mount_model.specs.History.{Event, state_after}
use Rattle.mount_sound.specs.Owed.{IsLawful}
use Rattle.mount_model.specs.Running.{Runs}
use Rattle.index_reader.specs.declared.opened.OpenReader.{OpenReader}
use Rattle.reader_laws.specs.Gathering.{Gathered}
use Rattle.reader_laws.specs.Moments.{IsSoundAt, Moment}
use Rattle.reader_laws.specs.GatheringOpening.{HasView}
use Rattle.reader_laws.specs.View.{changes_in, view}
use Rattle.reader_laws.specs.Opened.{HasOpenReader}
use Rattle.unit_format.specs.Regions.{IsBadRegion, IsRegion}
use Rattle.unit_format.specs.Units.{unit_spelling}
use Rattle.unit_format.specs.declared.finding.Region.{Region}
use Rattle.unit_format.specs.declared.units.TheConstants.{REGIONS, REGION_SIZE}
use Rattle.pack_files.specs.declared.scan.ScanStuck.{ScanStuck}
use Rattle.pack_files.specs.declared.scan.ScanStuck.TheVariants.{Bad}
use Rattle.pack_files.specs.Scanning.{scan_program}
use Rattle.pack_laws.specs.Scanned.{IsScanOf, region_bytes, region_start, region_stop}
use Rattle.packing_laws.specs.HasOnly.{HasFirstUnits, HasOnlyUnits}
use Rattle.packing_laws.specs.OnlyUnits.{Filing}
use Rattle.packing_laws.proofs.SmallFiles.OneSpelling.{region_good}
use Rattle.packing_laws.proofs.SmallFiles.Views.{SeesUnits, cut_units, sees_units}

-- what the law of a scan says
abbrev pub ScanLaw : Type 0
ScanLaw = (caller region : ℕ) (start end : Moment) (reader : OpenReader) (cut : List Gathered) (between scanning : List Event) (told : Result Region ScanStuck)
    → region < REGIONS → IsLawful end.state (between ++ scanning) → IsSoundAt end → HasOpenReader start end reader cut → IsBytes (view end cut reader.truncs) → Runs caller (scan_program reader region) scanning told
    → IsScanOf caller (state_after end.state between) reader.pieces region (view end cut reader.truncs) scanning told

minus : (a b : ℕ) → a + b - a ≡ b
minus a b = omega arith

seen : (filing : Filing) (start end : Moment) (room : ℕ) (cut : List Gathered) (truncs : List Trunc) (region : ℕ) → IsSoundAt end → HasView start end room cut truncs → HasOnlyUnits filing end room → SeesUnits filing (changes_in end cut truncs) region
seen filing start end room cut truncs region sound v has = sees_units filing end room cut truncs region sound v.rise (cut_units filing start end room cut truncs has v)

pub view_bytes : (filing : Filing) (start end : Moment) (room : ℕ) (cut : List Gathered) (truncs : List Trunc) → IsSoundAt end → HasView start end room cut truncs → HasOnlyUnits filing end room → IsBytes (view end cut truncs)
view_bytes filing start end room cut truncs sound v has = (seen filing start end room cut truncs 0 sound v has).bytes

pub first_units : (filing : Filing) (start end : Moment) (room : ℕ) (cut : List Gathered) (truncs : List Trunc) (region : ℕ) → IsSoundAt end → HasView start end room cut truncs → HasOnlyUnits filing end room → HasFirstUnits filing (changes_in end cut truncs) region
first_units filing start end room cut truncs region sound v has =
    let s = seen filing start end room cut truncs region sound v has in
    let f = s.front in
    let file : List ℕ = view end cut truncs in
    record {
      files = f.told;
      others = f.others;
      split = f.split;
      end = f.end;
      written = λ place g at. (let w = f.written place g at in (w.0, Contains-from_Among (changes_in end cut truncs) (Write w.0 (unit_spelling g)) w.1, w.2));
      next = λ g more is written. s.unwritten f.end g (f.next g more is) written;
      has = subst (λ n. IsRegion (region_start region) (region_stop region) (slice file (region_start region) n) f.told f.end) (minus (region_start region) REGION_SIZE) f.region;
    }

pub scan_told : ScanLaw → (filing : Filing) (caller region : ℕ) (start end : Moment) (reader : OpenReader) (cut : List Gathered) (between scanning : List Event) (told : Result Region ScanStuck) → region < REGIONS → IsLawful end.state (between ++ scanning) → IsSoundAt end → HasOpenReader start end reader cut
    → HasOnlyUnits filing end reader.room → Runs caller (scan_program reader region) scanning told → IsScanOf caller (state_after end.state between) reader.pieces region (view end cut reader.truncs) scanning told
scan_told law filing caller region start end reader cut between scanning told known lawful sound opened has runs =
    law caller region start end reader cut between scanning told known lawful sound opened (view_bytes filing start end reader.room cut reader.truncs sound opened.view has) runs

pub scan_good : ScanLaw → (filing : Filing) (caller region : ℕ) (start end : Moment) (reader : OpenReader) (cut : List Gathered) (between scanning : List Event) (told : Result Region ScanStuck) → region < REGIONS → IsLawful end.state (between ++ scanning) → IsSoundAt end → HasOpenReader start end reader cut
    → HasOnlyUnits filing end reader.room → Runs caller (scan_program reader region) scanning told → (place : ℕ) → told ≡ Err (Bad place) → ⊥
scan_good law filing caller region start end reader cut between scanning told known lawful sound opened has runs place is =
    let file : List ℕ = view end cut reader.truncs in
    let t : IsScanOf caller (state_after end.state between) reader.pieces region file scanning told = scan_told law filing caller region start end reader cut between scanning told known lawful sound opened has runs in
    let wrong : IsBadRegion (region_start region) (region_stop region) (region_bytes region file) place = subst (λ x. IsScanOf caller (state_after end.state between) reader.pieces region file scanning x) is t in
    let f = first_units filing start end reader.room cut reader.truncs region sound opened.view has in
    region_good region file f.files f.end place f.has wrong
