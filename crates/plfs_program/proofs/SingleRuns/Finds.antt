-- The reading of one small file goes one way.
use Rattle.std.proofs.Common.{◌≡◌, ℕ, ◌+◌, List, [], ◌∷◌, length, Option, Some, None, Result, Ok, Err, refl, sym, ap, ◌∙◌, subst, arith}
use Rattle.std.specs.List.{All}
use Rattle.std.proofs.lemmas.List.{append-nil}
use Rattle.std.proofs.lemmas.List.Elements.{All-cons, All-nil}
use Rattle.mount_model.specs.State.{State}
use Rattle.mount_model.specs.Paths.{Name}
use Rattle.mount_model.specs.declared.stuck.Stuck.{Stuck as Trouble}
use Rattle.index_reader.specs.declared.opened.OpenReader.{OpenReader}
use Rattle.opening_flow.specs.Opening.{opening_program}
use Rattle.unit_format.specs.declared.finding.Region.{Region}
use Rattle.unit_format.specs.declared.finding.Unit.{Unit as Found}
use Rattle.unit_format.specs.declared.units.TheConstants.{REGIONS}
use Rattle.unit_format.specs.Alike.{StandApart, AreAlike}
use Rattle.unit_format.specs.Finding.{IsFound}
use Rattle.pack_files.specs.declared.scan.ScanStuck.{ScanStuck}
use Rattle.pack_files.specs.declared.scan.ScanStuck.TheVariants.{Stuck}
use Rattle.lone_flow.specs.Scans.{ScansFrom}
use Rattle.lone_flow.specs.Unpacking.{Unpacks, ReadsIn, ReadsFound, reads, scans_stuck, opens, opens_stuck, unit_program}
use Rattle.plfs_program.specs.LoneCalls.{file_calls, found_calls, scans_calls, unpacking_calls}
use Rattle.plfs_program.proofs.SingleRuns.Apart.{scan_apart}
use Rattle.plfs_program.proofs.SingleRuns.OneWay.{Doing, DoneBy, GoesOneWay, Gives, MakesBy, Then, as_one_way, gives_one_way, makes_one_way, then_gives, then_one_way}
use Rattle.plfs_program.proofs.SingleRuns.Scans.{ScansBy, all_scans_one_way}

abbrev pub AreApart : List Region → Type 0
AreApart regions = All (λ (r : Region). StandApart r.units) regions

-- regions that hold the same units give one file for a name
abbrev pub Isolated : Type 0
Isolated = (name : List ℕ) (a b : List Region) (one other : Option Found) → AreApart a → AreAlike name a b → IsFound a name one → IsFound b name other → one ≡ other

-- ---- the units stand apart

from_apart : (reader : OpenReader) (region : ℕ) (start end : State) (regions : List Region) → region + length regions ≡ REGIONS → ScansFrom reader region start regions end → AreApart regions
from_apart reader region start end [] ends scans = All-nil (λ (r : Region). StandApart r.units)
from_apart reader region start end (r ∷ regions) ends (next, made, more) =
    All-cons (λ (r : Region). StandApart r.units) r regions (scan_apart reader region start next r (omega (arith, ends)) made) (from_apart reader (region + 1) next end regions (omega (arith, ends)) more)

alike_itself : (name : List ℕ) (regions : List Region) → AreAlike name regions regions
alike_itself name [] = tt
alike_itself name (r ∷ regions) = ((λ u named. ((λ x. x), (λ x. x))), alike_itself name regions)

-- ---- what was found is read

abbrev Told : Type 0
Told = Result (Option (List ℕ)) ScanStuck

abbrev content_told : Result (List ℕ) Trouble → Told
content_told (Ok content) = Ok (Some content)
content_told (Err why) = Err (Stuck why)

abbrev ReadsBy : OpenReader → Option Found → Doing Told
ReadsBy reader None = Gives (Ok None)
ReadsBy reader (Some unit) = Then (MakesBy (unit_program reader unit)) (λ content. Gives (content_told content))

reads_by : (reader : OpenReader) (found : Option Found) (start : State) (told : Told) (end : State) (r : ReadsFound reader found start told end) → ReadsBy reader found start (found_calls reader found start told end r) told end
reads_by reader None start told end r = (r.0, refl, r.1)
reads_by reader (Some unit) start (Ok None) end r = absurd r
reads_by reader (Some unit) start (Ok (Some content)) end r = then_gives (MakesBy (unit_program reader unit)) content_told start r.events (Ok content) (Ok (Some content)) end (r, refl) refl
reads_by reader (Some unit) start (Err why) end (trouble, is, r) = then_gives (MakesBy (unit_program reader unit)) content_told start r.events (Err trouble) (Err why) end (r, refl) (ap Err is)

reads_one_way : (reader : OpenReader) (found : Option Found) → GoesOneWay (ReadsBy reader found)
reads_one_way reader None = gives_one_way (Ok None)
reads_one_way reader (Some unit) = then_one_way (MakesBy (unit_program reader unit)) (λ content. Gives (content_told content)) (makes_one_way (unit_program reader unit)) (λ content. gives_one_way (content_told content))

module _ (isolated : Isolated) (name file : Name) where
  -- the unit that counts is read
  abbrev Finds : OpenReader → List Region → Doing Told
  Finds reader regions start calls told end = AreApart regions × (found : Option Found) × IsFound regions file found × ReadsBy reader found start calls told end

  finds_one_way : (reader : OpenReader) (regions : List Region) → GoesOneWay (Finds reader regions)
  finds_one_way reader regions = record {
    leads = λ start calls r end f. (reads_one_way reader f.1).leads start calls r end f.3;
    one = λ plan counts start calls others r s end other told room keeps too f g.
        let same : g.1 ≡ f.1 = isolated file regions regions g.1 f.1 g.0 (alike_itself file regions) g.2 f.2 in
        (reads_one_way reader f.1).one plan counts start calls others r s end other told room keeps too f.3 (subst (λ found. ReadsBy reader found start others s other) same g.3);
  }

  abbrev BehindScans : OpenReader → Result (List Region) ScanStuck → Doing Told
  BehindScans reader (Ok regions) = Finds reader regions
  BehindScans reader (Err why) = Gives (Err why)

  abbrev ReadsSo : OpenReader → Doing Told
  ReadsSo reader = Then (ScansBy reader) (BehindScans reader)

  reads_so : (reader : OpenReader) (start : State) (told : Told) (end : State) (r : ReadsIn reader file start told end) → ReadsSo reader start (file_calls reader file start told end r) told end
  reads_so reader start told end (reads regions scanned found scans is read) = (
    Ok regions,
    scanned,
    scans_calls reader start (Ok regions) scanned scans,
    found_calls reader found scanned told end read,
    refl,
    (scans, refl),
    (from_apart reader 0 start scanned regions (none_more (length regions) scans.0) scans.1, found, is, reads_by reader found scanned told end read),
  )
    where
      none_more : (n : ℕ) → n ≡ REGIONS → 0 + n ≡ REGIONS
      none_more n e = let none : 0 + n ≡ n = omega (arith) in none ∙ e
  reads_so reader start told end (scans_stuck why is scans) =
      (Err why, end, scans_calls reader start (Err why) end scans, [], sym (append-nil (scans_calls reader start (Err why) end scans)), (scans, refl), (is, refl, refl))

  behind_scans : (reader : OpenReader) (regions : Result (List Region) ScanStuck) → GoesOneWay (BehindScans reader regions)
  behind_scans reader (Ok regions) = finds_one_way reader regions
  behind_scans reader (Err why) = gives_one_way (Err why)

  abbrev BehindOpening : Result OpenReader Trouble → Doing Told
  BehindOpening (Ok reader) = ReadsSo reader
  BehindOpening (Err why) = Gives (Err (Stuck why))

  behind_opening : (opened : Result OpenReader Trouble) → GoesOneWay (BehindOpening opened)
  behind_opening (Ok reader) = then_one_way (ScansBy reader) (BehindScans reader) (all_scans_one_way reader) (behind_scans reader)
  behind_opening (Err why) = gives_one_way (Err (Stuck why))

  abbrev UnpacksSo : Doing Told
  UnpacksSo = Then (MakesBy (opening_program name 1)) BehindOpening

  unpacks_so : (start : State) (told : Told) (end : State) (u : Unpacks name file start told end) → UnpacksSo start (unpacking_calls name file start told end u) told end
  unpacks_so start told end (opens reader opened made read) = (Ok reader, opened, made.events, file_calls reader file opened told end read, refl, (made, refl), reads_so reader opened told end read)
  unpacks_so start told end (opens_stuck trouble is made) = (Err trouble, end, made.events, [], sym (append-nil made.events), (made, refl), (is, refl, refl))

  pub unpack_one_way : GoesOneWay (DoneBy (Unpacks name file) (unpacking_calls name file))
  unpack_one_way =
      as_one_way (Unpacks name file) (unpacking_calls name file) UnpacksSo (λ start told end u. unpacks_so start told end u) (then_one_way (MakesBy (opening_program name 1)) BehindOpening (makes_one_way (opening_program name 1)) behind_opening)
