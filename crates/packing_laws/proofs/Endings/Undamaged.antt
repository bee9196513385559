-- Who unpacks, names or packs by itself, where the container has only units, is told of no damage.
use Rattle.std.proofs.Common.{◌≡◌, ℕ, ◌<◌, List, [], ◌∷◌, length, Option, Some, None, Result, Ok, Err, refl, sym, subst, arith, inl, inr}
use Rattle.mount_model.specs.Program.{Program}
use Rattle.mount_model.specs.declared.call.Call.{Call}
use Rattle.mount_model.specs.declared.reply.Reply.{Reply}
use Rattle.mount_model.specs.History.{Event, state_after}
use Rattle.mount_model.specs.Paths.{Name}
use Rattle.mount_model.specs.State.{State}
use Rattle.mount_model.specs.declared.stuck.Stuck.{Stuck as Trouble}
use Rattle.mount_model.specs.declared.stuck.Stuck.TheVariants as trouble
use Rattle.lone_flow.specs.Driving.{Makes}
use Rattle.trouble_laws.specs.Ends.{AlwaysEnds}
use Rattle.trouble_laws.specs.Undamaged.{IsNoDamage, IsUndamaged}
use Rattle.index_reader.specs.declared.opened.OpenReader.{OpenReader}
use Rattle.reader_laws.specs.Moments.{IsSoundAt, Moment, next_moment}
use Rattle.reader_laws.proofs.Gathered.Facts.{sound_after}
use Rattle.reader_laws.specs.Failing.{FailsOrLacks}
use Rattle.writer_flow.specs.declared.handle.WriterHandle.{WriterHandle}
use Rattle.writer_flow.specs.declared.handle.WriterOut.{WriterOut}
use Rattle.writer_flow.specs.Closing.{close_program}
use Rattle.writer_flow.specs.Opening.{open_program}
use Rattle.writer_flow.specs.Syncing.{sync_program}
use Rattle.writer_flow.specs.Writing.{write_program}
use Rattle.opening_flow.specs.Opening.{opening_program}
use Rattle.unit_format.specs.declared.units.TheConstants.{REGIONS}
use Rattle.unit_format.specs.Units.{unit_spelling}
use Rattle.pack_files.specs.declared.scan.ScanStuck.{ScanStuck}
use Rattle.pack_files.specs.declared.scan.ScanStuck.TheVariants.{Bad, Stuck}
use Rattle.pack_files.specs.Scanning.{scan_program}
use Rattle.pack_laws.specs.Scanned.{IsScanOf}
use Rattle.lone_flow.specs.Naming.{Names}
use Rattle.lone_flow.specs.Naming as naming
use Rattle.lone_flow.specs.Unpacking.{Unpacks, opens, opens_stuck}
use Rattle.pack_input.specs.declared.files.NamedFile.{NamedFile}
use Rattle.lone_flow.specs.declared.packing.Packed.{Packed}
use Rattle.lone_flow.proofs.SmallPuts.Facts.{EndsSo, LastsBehind, WritersEnd, stuck_of, writer_so}
use Rattle.lone_flow.specs.Beginning.{BeginsAt}
use Rattle.lone_flow.specs.Beginning as beginning
use Rattle.lone_flow.specs.Packing.{Packs, begins_stuck, goes_on}
use Rattle.packing_laws.specs.Told.{AreNames, IsContent, IsTroubleOf}
use Rattle.packing_laws.proofs.Unpacking.Facts.{Follows, OpeningsEnd, ReadLaw, ReadTrouble, ScanLaw, content_so, follows, names_so}
use Rattle.packing_laws.specs.HasOnly.{IsOfUnits}
use Rattle.packing_laws.specs.OnlyUnits.{Filing}
use Rattle.packing_laws.specs.Troubles.{TellsNoDamage}
use Rattle.packing_laws.proofs.OnlyUnits.Alone.{IsMade, Reaches, is_made, made_reaches}
use Rattle.packing_laws.proofs.Kept.Packing.{begun}
use Rattle.packing_laws.proofs.OnlyUnits.SeenUnits.{SeenUnits, seen_units}

-- ---- a trouble of the store, or of the container's name

fault_undamaged : (why : Trouble) → why ≡ trouble.Fault → IsNoDamage why
fault_undamaged why is = subst (λ (w : Trouble). IsNoDamage w) (sym is) tt

lacks_undamaged : (caller : ℕ) (from : State) (events : List Event) (why : Trouble) → FailsOrLacks caller from events why → IsNoDamage why
lacks_undamaged caller from events why (inl fails) = fault_undamaged why fails.0
lacks_undamaged caller from events why (inr none) = subst (λ (w : Trouble). IsNoDamage w) (sym none) tt

told_so : {R : Type 0} (told : Result R ScanStuck) (why : Trouble) → told ≡ Err (Stuck why) → IsNoDamage why → TellsNoDamage told
told_so {R} told why is fine = subst (λ (t : Result R ScanStuck). TellsNoDamage t) (sym is) fine

opening_undamaged : OpeningsEnd → (name : Name) (start : Moment) (why : Trouble) (end : State) → IsSoundAt start → Makes (opening_program name 1) start.state (Err why) end → IsNoDamage why
opening_undamaged openings name start why end sound makes =
    let b : IsMade (opening_program name 1) start (Err why) end = is_made (opening_program name 1) start start.state (Err why) end refl makes in
    let g : Moment = next_moment start b.greeting in
    let sound_g : IsSoundAt g = sound_after start (b.greeting ∷ []) (b.lawful.0, b.lawful.1, tt) sound in
    lacks_undamaged 0 g.state b.events why (openings 0 1 name g b.events (Err why) (omega arith) b.lawful.2 sound_g b.runs)

-- ---- what is told of a reader's file

trouble_undamaged : (reader : OpenReader) (at : State) (u : SeenUnits reader at) (end : State) (why : ScanStuck) → IsTroubleOf reader.pieces u.file u.from end why → TellsNoDamage {R = ℕ} (Err why)
trouble_undamaged reader at u end (Bad place) bad = u.good (length bad.regions) place bad.bad
trouble_undamaged reader at u end (Stuck why) fails = fault_undamaged why fails.fails.0

any_told : (R : Type 0) (why : ScanStuck) → TellsNoDamage {R = ℕ} (Err why) → TellsNoDamage {R = R} (Err why)
any_told R (Bad place) fine = fine
any_told R (Stuck why) fine = fine

content_undamaged : (reader : OpenReader) (at : State) (u : SeenUnits reader at) (file : Name) (end : State) (told : Result (Option (List ℕ)) ScanStuck) → IsContent reader.pieces u.file file u.from end told → TellsNoDamage told
content_undamaged reader at u file end (Ok content) c = tt
content_undamaged reader at u file end (Err why) c = any_told (Option (List ℕ)) why (trouble_undamaged reader at u end why c)

names_undamaged : (reader : OpenReader) (at : State) (u : SeenUnits reader at) (end : State) (told : Result (List Name) ScanStuck) → AreNames reader.pieces u.file u.from end told → TellsNoDamage told
names_undamaged reader at u end (Ok names) c = tt
names_undamaged reader at u end (Err why) c = any_told (List Name) why (trouble_undamaged reader at u end why c)

-- ---- a packing's writer

-- what is known of the writer's programs
pub record Writers : Type 0 where
  pub opening : (name : Name) → AlwaysEnds IsUndamaged (open_program name 0 64)
  pub writing : (handle : WriterHandle) (at : ℕ) (bytes : List ℕ) → AlwaysEnds (λ (out : WriterOut). IsUndamaged out.result) (write_program handle at bytes)
  pub syncing : (handle : WriterHandle) → AlwaysEnds (λ (out : WriterOut). IsUndamaged out.result) (sync_program handle)
  pub closing : (handle : WriterHandle) → AlwaysEnds (λ (out : WriterOut). IsUndamaged out.result) (close_program handle)

-- the state is that of a sound moment
record IsSoundState (state : State) : Type 0 where
  pub moment : Moment
  pub at : moment.state ≡ state
  pub sound : IsSoundAt moment

reached_sound : (m : Moment) (end : State) → IsSoundAt m → Reaches m end → IsSoundState end
reached_sound m end sound r = record { moment = r.to; at = r.at; sound = subst (λ (x : Moment). IsSoundAt x) r.comes.ends (sound_after m r.comes.events r.comes.lawful sound) }

sound_lasts : LastsBehind IsSoundState
sound_lasts R program start result end s makes = reached_sound s.moment end s.sound (made_reaches program s.moment result end (is_made program s.moment start result end s.at makes))

always : {R : Type 0} (good : R → Type 0) (program : Program Call Reply R) (start : State) (result : R) (end : State) → AlwaysEnds good program → IsSoundState start → Makes program start result end → good result
always good program start result end law s makes =
    let b : IsMade program s.moment result end = is_made program s.moment start result end s.at makes in
    let g : Moment = next_moment s.moment b.greeting in
    law 0 g.issued g.state b.events result b.lawful.2 (sound_after s.moment (b.greeting ∷ []) (b.lawful.0, b.lawful.1, tt) s.sound) b.runs

stuck_undamaged : (h : Option WriterHandle) (r : Result ℕ Trouble) (why : Trouble) → IsUndamaged r → stuck_of h r ≡ Some why → IsNoDamage why
stuck_undamaged h (Err w) why fine is = let same : w ≡ why = cc in subst (λ (x : Trouble). IsNoDamage x) same fine
stuck_undamaged None (Ok n) why fine is = fault_undamaged why (let same : why ≡ trouble.Fault = cc in same)
stuck_undamaged (Some handle) (Ok n) why fine is = absurd (cc)

err_undamaged : (r : Result ℕ Trouble) (why : Trouble) → IsUndamaged r → r ≡ Err why → IsNoDamage why
err_undamaged r why fine is = subst (λ (x : Result ℕ Trouble). IsUndamaged x) is fine

writers_undamaged : Writers → WritersEnd IsSoundState (λ why end. IsNoDamage why)
writers_undamaged laws = record {
  opens = λ name start why end s makes. always IsUndamaged (open_program name 0 64) start (Err why) end (laws.opening name) s makes;
  puts = λ handle at f start out end s makes why stuck.
      stuck_undamaged out.handle out.result why (always (λ (o : WriterOut). IsUndamaged o.result) (write_program handle at (unit_spelling f)) start out end (laws.writing handle at (unit_spelling f)) s makes) stuck;
  syncs = λ handle start out end s makes why stuck. stuck_undamaged out.handle out.result why (always (λ (o : WriterOut). IsUndamaged o.result) (sync_program handle) start out end (laws.syncing handle) s makes) stuck;
  closes = λ handle start out end s makes why is. err_undamaged out.result why (always (λ (o : WriterOut). IsUndamaged o.result) (close_program handle) start out end (laws.closing handle) s makes) is;
}

ends_undamaged : {R : Type 0} (told : Result R ScanStuck) (end : State) → EndsSo (λ why end. IsNoDamage why) told end → TellsNoDamage told
ends_undamaged (Ok told) end so = tt
ends_undamaged (Err (Stuck why)) end so = so
ends_undamaged (Err (Bad place)) end so = so

-- ---- where a packing begins

stuck_is : (why : ScanStuck) (w : Trouble) → ◌≡◌ {A = Result ℕ ScanStuck} (Err why) (Err (Stuck w)) → why ≡ Stuck w
stuck_is why w e = cc

module _ (openings : OpeningsEnd) (scan_law : ScanLaw) (read_law : ReadLaw) (trouble_law : ReadTrouble) where
  scan_undamaged : (reader : OpenReader) (at : State) (u : SeenUnits reader at) (region : ℕ) (why : ScanStuck) (end : State) → region < REGIONS → Makes (scan_program reader region) at (Err why) end → TellsNoDamage {R = ℕ} (Err why)
  scan_undamaged reader at u region why end known makes =
      let f : Follows u.from (scan_program reader region) (Err why) end = follows u.from at end (scan_program reader region) (Err why) u.reached makes in
      scanned why (state_after u.from f.waited) f.mine (u.scans region f.waited f.mine (Err why) known f.lawful f.runs)
    where
      scanned : (w : ScanStuck) (from : State) (events : List Event) → IsScanOf 0 from reader.pieces region u.file events (Err w) → TellsNoDamage {R = ℕ} (Err w)
      scanned (Bad place) from events t = u.good region place t
      scanned (Stuck w) from events t = fault_undamaged w t.fails.0

  begins_undamaged : (filing : Filing) (name : Name) (region : ℕ) (start : Moment) (why : ScanStuck) (end : State) → region < REGIONS → IsSoundAt start → IsOfUnits filing start name → BeginsAt name region start.state (Err why) end → TellsNoDamage {R = ℕ} (Err why)
  begins_undamaged filing name region start why end known sound of (beginning.opens reader at makes scans) =
      scan_undamaged reader at (seen_units openings scan_law read_law trouble_law filing name start reader at sound of makes) region why end known scans
  begins_undamaged filing name region start why end known sound of (beginning.opens_none w makes (inl (gone, told))) = absurd (cc)
  begins_undamaged filing name region start why end known sound of (beginning.opens_none w makes (inr (other, told))) =
      subst (λ (x : ScanStuck). TellsNoDamage {R = ℕ} (Err x)) (sym (stuck_is why w told)) (opening_undamaged openings name start w end sound makes)

  -- ---- the three calls

  pub unpacked_undamaged : (filing : Filing) (name file : Name) (start : Moment) (told : Result (Option (List ℕ)) ScanStuck) (end : State) → IsSoundAt start → IsOfUnits filing start name → Unpacks name file start.state told end → TellsNoDamage told
  unpacked_undamaged filing name file start told end sound of (opens reader at makes read) =
      let u : SeenUnits reader at = seen_units openings scan_law read_law trouble_law filing name start reader at sound of makes in
      content_undamaged reader at u file end told (content_so reader u.file u.from file u.scans u.reads u.fails at told end u.reached read)
  unpacked_undamaged filing name file start told end sound of (opens_stuck why same makes) = told_so told why same (opening_undamaged openings name start why end sound makes)

  pub named_undamaged : (filing : Filing) (name : Name) (start : Moment) (told : Result (List Name) ScanStuck) (end : State) → IsSoundAt start → IsOfUnits filing start name → Names name start.state told end → TellsNoDamage told
  named_undamaged filing name start told end sound of (naming.opens reader at makes names) =
      let u : SeenUnits reader at = seen_units openings scan_law read_law trouble_law filing name start reader at sound of makes in
      names_undamaged reader at u end told (names_so reader u.file u.from u.scans at told end u.reached names)
  named_undamaged filing name start told end sound of (naming.opens_stuck why same makes) = told_so told why same (opening_undamaged openings name start why end sound makes)

  pub packed_undamaged : Writers → (filing : Filing) (name : Name) (region : ℕ) (files : List NamedFile) (start : Moment) (told : Result Packed ScanStuck) (end : State) → region < REGIONS → IsSoundAt start → IsOfUnits filing start name → Packs name region files start.state told end → TellsNoDamage told
  packed_undamaged writers filing name region files start told end known sound of (goes_on at from begins packs) =
      ends_undamaged told end (writer_so IsSoundState (λ why end. IsNoDamage why) sound_lasts (writers_undamaged writers) name region files at from told end (reached_sound start from sound (begun name region at start from begins)) packs)
  packed_undamaged writers filing name region files start told end known sound of (begins_stuck why begins same) =
      subst (λ (t : Result Packed ScanStuck). TellsNoDamage t) (sym same) (any_told Packed why (begins_undamaged filing name region start why end known sound of begins))
