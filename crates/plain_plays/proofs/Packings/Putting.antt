-- Files that are put, one behind the other, and the end of their writer.
use Rattle.std.proofs.Common.{◌≡◌, ◌≤◌, ◌+◌, ◌*◌, ℕ, List, [], ◌∷◌, ◌++◌, length, Option, Some, None, Result, Ok, Err, refl, sym, ap, ◌∙◌, subst, arith}
use Rattle.script_lang.specs.declared.line.Line.{Line}
use Rattle.script_lang.specs.declared.line.Outcome.{Outcome}
use Rattle.script_lang.specs.declared.script.Data.TheVariants.{Hex}
use Rattle.script_lang.specs.declared.script.Statement.TheVariants.{Close, Sync, Write}
use Rattle.mount_model.specs.State.{State}
use Rattle.mount_model.specs.declared.stuck.Stuck.{Stuck}
use Rattle.reader_laws.specs.Moments.{Moment}
use Rattle.unit_format.specs.Units.{SmallFile, unit_size, unit_spelling}
use Rattle.unit_format.specs.declared.units.TheConstants.{REGION_SIZE}
use Rattle.pack_files.specs.Putting.{put_program}
use Rattle.pack_files.specs.declared.scan.ScanStuck.{ScanStuck}
use Rattle.pack_input.specs.declared.files.NamedFile.{NamedFile}
use Rattle.pack_laws.specs.Scanned.{region_stop}
use Rattle.lone_flow.specs.Packing.{EndsAfter}
use Rattle.lone_flow.specs.Putting.{Puts, PutsEach, full, made, small_file}
use Rattle.lone_flow.specs.Settling.{Closes, Settles, closed_as}
use Rattle.lone_flow.specs.declared.packing.Packed.{Packed}
use Rattle.lone_flow.proofs.SmallPuts.Facts.{GaveBack, WasPut, put_made}
use Rattle.outcomes.specs.Outcomes.{close_outcome, sync_outcome, write_outcome}
use Rattle.writer_flow.specs.Closing.{close_program}
use Rattle.writer_flow.specs.declared.handle.WriterHandle.{WriterHandle}
use Rattle.writer_flow.specs.declared.handle.WriterOut.{WriterOut}
use Rattle.writer_flow.specs.Syncing.{sync_program}
use Rattle.plain_machine.specs.Machine.{Plain}
use Rattle.plain_plays.specs.Packings.{AreUnrefused, IsUnrefused, end_behind, unit_writes}
use Rattle.plain_plays.proofs.Packings.Called.{MeetsNoFault, makes_rise, quiet_first, quiet_rest}
use Rattle.plain_plays.proofs.Packings.Taking.{HasTaken, IsThere, both_taken, none_taken, zero_line}
use Rattle.plain_plays.proofs.Packings.Writing.{MadeStatement, IsRefusalOf, closes_on, syncs_on, writes_on}

-- ---- lines

pub unrefused_both : (a b : List Line) → AreUnrefused a → AreUnrefused b → AreUnrefused (a ++ b)
unrefused_both [] b x y = y
unrefused_both (line ∷ a) b x y = (x.0, unrefused_both a b x.1 y)

-- what is put well isn't refused
unrefused : (outcome : Result ℕ Stuck → Outcome) (result : Result ℕ Stuck) (n : ℕ) → result ≡ Ok n → IsUnrefused (outcome (Ok n)) → IsUnrefused (outcome result)
unrefused outcome result n is well = subst (λ r. IsUnrefused (outcome r)) (sym is) well

-- ---- one behind the other

same_rise : (start end : State) → end ≡ start → start.store.faults ≤ end.store.faults
same_rise start end same = subst (λ (s : State). start.store.faults ≤ s.store.faults) (sym same) (omega arith)

pub put_rises : (handle : WriterHandle) (region at : ℕ) (f : SmallFile) (start : State) (told : _) (end : State) → Puts handle region at f start told end → start.store.faults ≤ end.store.faults
put_rises handle region at f start told end (made m) = makes_rise (put_program handle at f) start m.out end m.makes
put_rises handle region at f start told end (full long) = same_rise start end long.same

pub each_rises : (region : ℕ) (files : List NamedFile) (handle : WriterHandle) (at : ℕ) (start : State) (last : WriterHandle) (until : ℕ) (end : State) → PutsEach region files handle at start last until end → start.store.faults ≤ end.store.faults
each_rises region [] handle at start last until end (writer, place, same) = same_rise start end same
each_rises region (f ∷ files) handle at start last until end (writer, next, between, one, others) =
    let a = put_rises handle region at (small_file f) start _ between one in
    let b = each_rises region files writer next between last until end others in
    omega (arith, a, b)

-- Files were put by their writes, up to this place.
pub record PutsPlainly (p : Plain) (region at : ℕ) (files : List NamedFile) (last : WriterHandle) (until : ℕ) (end : State) : Type 0 where
  pub lines : List Line
  pub taken : HasTaken p (unit_writes at files) lines (Some last) end
  pub unrefused : AreUnrefused lines
  pub ends : until ≡ end_behind at files
  pub within : at ≤ region_stop region → until ≤ region_stop region

region_fits : (region n : ℕ) → n ≤ (region + 1) * REGION_SIZE → n ≤ region_stop region
region_fits region n fits = omega (arith, fits)

module _ (region : ℕ) where
  put_on : (p : Plain) (f : NamedFile) (files : List NamedFile) (handle : WriterHandle) (at : ℕ) (writer last : WriterHandle) (next until : ℕ) (between end : State) (out : WriterOut) → at + unit_size (small_file f) ≤ (region + 1) * REGION_SIZE
      → (d : MadeStatement p (Write at (Hex (unit_spelling (small_file f)))) (write_outcome at (length (unit_spelling (small_file f))) out.result) (Some writer) between (λ because. out.result ≡ Err because) IsRefusalOf)
      → (stamp : ℕ) → out.result ≡ Ok stamp → next ≡ at + unit_size (small_file f) → PutsPlainly d.taken.last region next files last until end → PutsPlainly p region at (f ∷ files) last until end
  put_on p f files handle at writer last next until between end out fits d stamp well place rest =
      let Lines : ℕ → Type 0 = λ n. HasTaken d.taken.last (unit_writes n files) rest.lines (Some last) end in
      record {
        lines = zero_line (write_outcome at (length (unit_spelling (small_file f))) out.result) ∷ rest.lines;
        taken = both_taken p (Write at (Hex (unit_spelling (small_file f))) ∷ []) (unit_writes (at + unit_size (small_file f)) files) (zero_line (write_outcome at (length (unit_spelling (small_file f))) out.result) ∷ []) rest.lines (Some writer) (Some last) between end
            d.taken (subst Lines place rest.taken);
        unrefused = (unrefused (write_outcome at (length (unit_spelling (small_file f)))) out.result stamp well tt, rest.unrefused);
        ends = rest.ends ∙ ap (λ n. end_behind n files) place;
        within = λ before. rest.within (subst (λ n. n ≤ region_stop region) (sym place) (region_fits region (at + unit_size (small_file f)) fits));
      }

  pub puts_so : (files : List NamedFile) (m : Moment) (p : Plain) (handle : WriterHandle) (at : ℕ) (start : State) (last : WriterHandle) (until : ℕ) (end : State) → m.state ≡ start → IsThere m p (Some handle) → PutsEach region files handle at start last until end → MeetsNoFault start end
      → PutsPlainly p region at files last until end
  puts_so [] m p handle at start last until end begins there (writer, place, same) quiet = record {
    lines = [];
    taken = none_taken m p (Some last) end (begins ∙ sym same) (subst (λ (h : WriterHandle). IsThere m p (Some h)) (sym writer) there);
    unrefused = tt;
    ends = place;
    within = λ before. subst (λ n. n ≤ region_stop region) (sym place) before;
  }
  puts_so (f ∷ files) m p handle at start last until end begins there (writer, next, between, one, others) quiet =
      let w : WasPut handle region at (small_file f) start (GaveBack writer next (at + unit_size (small_file f))) between = put_made handle region at (small_file f) start writer next between one in
      let a = put_rises handle region at (small_file f) start _ between one in
      let b = each_rises region files writer next between last until end others in
      let (stamp, well, back, place) = w.ended in
      let Done : Option WriterHandle → Type 0 = λ h. MadeStatement p (Write at (Hex (unit_spelling (small_file f)))) (write_outcome at (length (unit_spelling (small_file f))) w.out.result) h between (λ because. w.out.result ≡ Err because) IsRefusalOf in
      let d : Done (Some writer) = subst Done back (writes_on m p start between begins (quiet_first start between end b quiet) handle there at (small_file f) w.out w.makes).0 in
      put_on p f files handle at writer last next until between end w.out w.fits d stamp well place
      (puts_so files d.taken.m d.taken.last writer next between last until end d.taken.at d.taken.there others (quiet_rest start between end a b quiet))

-- ---- the end of the writer

pub closes_rise : (handle : Option WriterHandle) (result : Result ℕ Stuck) (start : State) (told : Result (Unit {0}) Stuck) (end : State) → Closes handle result start told end → start.store.faults ≤ end.store.faults
closes_rise handle (Err why) start told end (is, same) = same_rise start end same
closes_rise None (Ok landed) start told end (is, same) = same_rise start end same
closes_rise (Some handle) (Ok landed) start told end (out, makes, is) = makes_rise (close_program handle) start out end makes

pub settles_rise : (handle : WriterHandle) (start : State) (told : Result (Unit {0}) Stuck) (end : State) → Settles handle start told end → start.store.faults ≤ end.store.faults
settles_rise handle start told end s =
    let a = makes_rise (sync_program handle) start s.synced s.between s.syncs in
    let b = closes_rise s.synced.handle s.synced.result s.between told end s.closes in
    omega (arith, a, b)

-- The writer was synced and closed, which went well.
pub record SettlesPlainly (p : Plain) (told : Result (Unit {0}) Stuck) (end : State) : Type 0 where
  pub lines : List Line
  pub left : Option WriterHandle
  pub taken : HasTaken p (Sync ∷ Close ∷ []) lines left end
  pub unrefused : AreUnrefused lines
  pub well : told ≡ Ok tt

module _ (p : Plain) (between end : State) (synced : WriterOut) where
  abbrev Synced : Option WriterHandle → Result ℕ Stuck → Type 0
  Synced h r = MadeStatement p Sync (sync_outcome r) h between (λ because. r ≡ Err because) (λ because. ⊥)

  closed_well : (landed : ℕ) (handle : WriterHandle) (d : Synced (Some handle) (Ok landed)) (told : Result (Unit {0}) Stuck) (out : WriterOut) (result : Result ℕ Stuck) → out.result ≡ result → MadeStatement d.taken.last Close (close_outcome out.result) out.handle end (λ because. out.result ≡ Err because) (λ because. ⊥)
      → told ≡ closed_as out.result → SettlesPlainly p told end
  closed_well landed handle d told out (Err why) e c is = absurd (c.caused why e)
  closed_well landed handle d told out (Ok count) e c is = record {
    lines = zero_line (sync_outcome (Ok landed)) ∷ zero_line (close_outcome out.result) ∷ [];
    left = out.handle;
    taken = both_taken p (Sync ∷ []) (Close ∷ []) (zero_line (sync_outcome (Ok landed)) ∷ []) (zero_line (close_outcome out.result) ∷ []) (Some handle) out.handle between end d.taken c.taken;
    unrefused = (tt, (unrefused close_outcome out.result count e tt, tt));
    well = is ∙ ap closed_as e;
  }

  settles_on : (h : Option WriterHandle) (r : Result ℕ Stuck) → Synced h r → (h ≡ None → ⊥) → (told : Result (Unit {0}) Stuck) → Closes h r between told end → MeetsNoFault between end → SettlesPlainly p told end
  settles_on h (Err why) d some told c quiet = absurd (d.caused why refl)
  settles_on None (Ok landed) d some told c quiet = absurd (some refl)
  settles_on (Some handle) (Ok landed) d some told (out, makes, is) quiet =
      closed_well landed handle d told out out.result refl (closes_on d.taken.m d.taken.last between end d.taken.at quiet handle d.taken.there out makes) is

pub settles_so : (m : Moment) (p : Plain) (handle : WriterHandle) (start : State) (told : Result (Unit {0}) Stuck) (end : State) → m.state ≡ start → IsThere m p (Some handle) → Settles handle start told end → MeetsNoFault start end → SettlesPlainly p told end
settles_so m p handle start told end begins there s quiet =
    let a = makes_rise (sync_program handle) start s.synced s.between s.syncs in
    let b = closes_rise s.synced.handle s.synced.result s.between told end s.closes in
    let d = syncs_on m p start s.between begins (quiet_first start s.between end b quiet) handle there s.synced s.syncs in
    settles_on p s.between end s.synced s.synced.handle s.synced.result d.0 d.1 told s.closes (quiet_rest start s.between end a b quiet)

-- behind the puts it tells that they are made
pub record EndsPlainly (p : Plain) (packed : Packed) (told : Result Packed ScanStuck) (end : State) : Type 0 where
  pub lines : List Line
  pub left : Option WriterHandle
  pub taken : HasTaken p (Sync ∷ Close ∷ []) lines left end
  pub unrefused : AreUnrefused lines
  pub well : told ≡ Ok packed

abbrev Ended : Type 0
Ended = Result (Unit {0}) Stuck

no_trouble : (told : Ended) (trouble : Stuck) → told ≡ Err trouble → told ≡ Ok tt → ⊥
no_trouble told trouble x y = cc

pub after_rises : (handle : WriterHandle) (packed : Packed) (start : State) (told : Result Packed ScanStuck) (end : State) → EndsAfter handle packed start told end → start.store.faults ≤ end.store.faults
after_rises handle packed start (Ok told) end (is, s) = settles_rise handle start (Ok tt) end s
after_rises handle packed start (Err why) end (trouble, is, s) = settles_rise handle start (Err trouble) end s

pub ends_so : (m : Moment) (p : Plain) (handle : WriterHandle) (packed : Packed) (start : State) (told : Result Packed ScanStuck) (end : State) → m.state ≡ start → IsThere m p (Some handle) → EndsAfter handle packed start told end → MeetsNoFault start end → EndsPlainly p packed told end
ends_so m p handle packed start (Ok told) end begins there (is, s) quiet =
    let e = settles_so m p handle start (Ok tt) end begins there s quiet in
    record { lines = e.lines; left = e.left; taken = e.taken; unrefused = e.unrefused; well = ap Ok is }
ends_so m p handle packed start (Err why) end begins there (trouble, is, s) quiet =
    absurd (no_trouble (Err trouble) trouble refl (settles_so m p handle start (Err trouble) end begins there s quiet).well)
