-- Who opens a container of units by itself sees a file of units.
use Rattle.std.proofs.Common.{◌≡◌, ℕ, ◌+◌, ◌-◌, List, [], ◌∷◌, ◌++◌, Ok, refl, sym, subst, arith}
use Rattle.plain_file.specs.File.{slice}
use Rattle.mount_model.specs.declared.call.Ask.{Ask}
use Rattle.mount_model.specs.History.{Event, state_after}
use Rattle.mount_model.specs.Paths.{Name}
use Rattle.mount_model.specs.State.{State}
use Rattle.mount_sound.specs.Owed.{IsLawful}
use Rattle.mount_sound.proofs.Facts.{lawful_first}
use Rattle.lone_flow.specs.Driving.{Makes}
use Rattle.index_reader.specs.declared.opened.OpenReader.{OpenReader}
use Rattle.reader_laws.specs.Moments.{IsSoundAt, Moment, moment_after, next_moment}
use Rattle.reader_laws.specs.View.{changes_in}
use Rattle.reader_laws.proofs.Gathered.Facts.{legal_rest, sound_after}
use Rattle.reader_laws.specs.Opened.{HasOpenedIn}
use Rattle.opening_flow.specs.Opening.{opening_program}
use Rattle.unit_format.specs.declared.units.TheConstants.{REGION_SIZE}
use Rattle.unit_format.specs.Regions.{IsBadRegion, IsRegion}
use Rattle.pack_laws.specs.Scanned.{region_bytes, region_start, region_stop}
use Rattle.lone_flow.specs.Looking.{GreetsOrLooks}
use Rattle.packing_laws.specs.Seen.{file_seen}
use Rattle.packing_laws.proofs.Unpacking.Facts.{HasReached, HasSeen, OpeningsEnd, ReadLaw, ReadTrouble, ReadsFail, ReadsTell, ScanLaw, ScansTell, has_seen, reads_fail, reads_tell, scans_tell}
use Rattle.packing_laws.specs.HasOnly.{HasOnlyUnits, IsOfUnits}
use Rattle.packing_laws.specs.OnlyUnits.{AreOnlyUnits, Filing}
use Rattle.packing_laws.proofs.OnlyUnits.Alone.{IsMade, is_made}
use Rattle.packing_laws.proofs.OnlyUnits.Looking.{AllLook, only_still}
use Rattle.packing_laws.proofs.OnlyUnits.Opening.{opened_room, opening_only_looks}
use Rattle.packing_laws.proofs.SmallFiles.OneSpelling.{region_good}
use Rattle.packing_laws.proofs.SmallFiles.Views.{SeesUnits, cut_units, sees_units}

-- ---- a file of units

looks_first : (first rest : List Event) → AllLook (first ++ rest) → AllLook first
looks_first [] rest all = tt
looks_first (e ∷ first) rest all = (all.0, looks_first first rest all.1)

looks_rest : (first rest : List Event) → AllLook (first ++ rest) → AllLook rest
looks_rest [] rest all = all
looks_rest (e ∷ first) rest all = looks_rest first rest all.1

minus : (a b : ℕ) → a + b - a ≡ b
minus a b = omega arith

-- what is known of a reader of units that was opened alone
pub record SeenUnits (reader : OpenReader) (at : State) : Type 0 where
  pub from : State
  pub file : List ℕ
  pub scans : ScansTell reader file from
  pub reads : ReadsTell reader file from
  pub fails : ReadsFail reader from
  pub reached : HasReached from at
  pub good : (region place : ℕ) → IsBadRegion (region_start region) (region_stop region) (region_bytes region file) place → ⊥

pub seen_units : OpeningsEnd → ScanLaw → ReadLaw → ReadTrouble → (filing : Filing) (name : Name) (start : Moment) (reader : OpenReader) (at : State) → IsSoundAt start → IsOfUnits filing start name → Makes (opening_program name 1) start.state (Ok reader) at → SeenUnits reader at
seen_units openings scan_law read_law trouble_law filing name start reader at sound of makes =
    let b : IsMade (opening_program name 1) start (Ok reader) at = is_made (opening_program name 1) start start.state (Ok reader) at refl makes in
    let g : Moment = next_moment start b.greeting in
    let one : IsLawful start.state (b.greeting ∷ []) = (b.lawful.0, b.lawful.1, tt) in
    let sound_g : IsSoundAt g = sound_after start (b.greeting ∷ []) one sound in
    let o : HasOpenedIn 0 g b.events reader = openings 0 1 name g b.events (Ok reader) (omega arith) b.lawful.2 sound_g b.runs in
    let room : ℕ = reader.room in
    let has : HasOnlyUnits filing start room = of sound.shape.tree room sound.shape.told (opened_room name start reader at sound b sound.shape.tree sound.shape.told) in
    let greets : GreetsOrLooks b.greeting.ask.call = subst (λ (a : Ask). GreetsOrLooks a.call) (sym b.asks) tt in
    let has_g : HasOnlyUnits filing g room = only_still filing start (b.greeting ∷ []) room sound one (greets, tt) has in
    let shown : List Event = o.first ∷ o.more in
    let rest : List Event = o.listing ∷ o.later in
    let looks : AllLook (o.before ++ (shown ++ rest)) = subst (λ (es : List Event). AllLook es) o.split (opening_only_looks name b.events (Ok reader) b.alone b.runs) in
    let all : IsLawful g.state (o.before ++ (shown ++ rest)) = subst (λ (es : List Event). IsLawful g.state es) o.split b.lawful.2 in
    let met : Moment = moment_after g o.before in
    let first : IsLawful g.state o.before = lawful_first g.state o.before (shown ++ rest) all in
    let sound_met : IsSoundAt met = sound_after g o.before first sound_g in
    let has_met : HasOnlyUnits filing met room = only_still filing g o.before room sound_g first (looks_first o.before (shown ++ rest) looks) has_g in
    let on : IsLawful met.state shown = lawful_first met.state shown rest (legal_rest g o.before (shown ++ rest) all) in
    let seen : Moment = moment_after met shown in
    let has_seen_then : HasOnlyUnits filing seen room = only_still filing met shown room sound_met on (looks_first shown rest (looks_rest o.before (shown ++ rest) looks)) has_met in
    let s : HasSeen seen (state_after g.state b.events) = has_seen g b.events reader o b.lawful.2 sound_g in
    let units : AreOnlyUnits filing (changes_in seen o.cut reader.truncs) = cut_units filing met seen room o.cut reader.truncs has_seen_then o.has.view in
    let file : List ℕ = file_seen g b.events reader o in
    let sees : (region : ℕ) → SeesUnits filing (changes_in seen o.cut reader.truncs) region = λ region. sees_units filing seen room o.cut reader.truncs region s.sound o.has.view.rise units in
    record {
      from = seen.state;
      file = file;
      scans = scans_tell g b.events reader o s.sound scan_law (sees 0).bytes;
      reads = reads_tell g b.events reader o s.sound read_law;
      fails = reads_fail g b.events reader o s.sound trouble_law;
      reached = subst (λ z. HasReached seen.state z) b.ends s.reached;
      good = λ region place wrong.
          let f = (sees region).front in
          let whole : IsRegion (region_start region) (region_stop region) (region_bytes region file) f.told f.end = subst (λ n. IsRegion (region_start region) (region_stop region) (slice file (region_start region) n) f.told f.end) (minus (region_start region) REGION_SIZE) f.region in
          region_good region file f.told f.end place whole wrong;
    }
