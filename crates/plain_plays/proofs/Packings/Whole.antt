-- A packing by a caller by itself is what the plain machine's actor does.
use Rattle.std.proofs.Common.{◌≡◌, ◌≤◌, ◌<◌, ◌+◌, ◌*◌, ℕ, min, max, inl, inr, List, [], ◌∷◌, ◌++◌, length, drop, Option, Some, None, Result, Ok, Err, refl, sym, ap, ◌∙◌, subst, arith}
use Rattle.std.specs.Prelude.{slice_get}
use Rattle.std.proofs.lemmas.List.{length-append, length-take}
use Rattle.script_lang.specs.declared.line.Line.{Line}
use Rattle.script_lang.specs.declared.script.Data.TheVariants.{Hex}
use Rattle.script_lang.specs.declared.script.Statement.{Statement}
use Rattle.script_lang.specs.declared.script.Statement.TheVariants.{Close, Open, Sync, Write}
use Rattle.mount_model.specs.Paths.{Name}
use Rattle.mount_model.specs.State.{State}
use Rattle.mount_model.specs.declared.reply.Refusal.TheVariants as refusal
use Rattle.mount_model.specs.declared.stuck.Stuck.{Stuck}
use Rattle.mount_model.specs.declared.stuck.Stuck.TheVariants as stuck
use Rattle.reader_laws.specs.Moments.{Moment}
use Rattle.index_reader.specs.declared.opened.OpenReader.{OpenReader}
use Rattle.plain_file.specs.File.{slice}
use Rattle.opening_flow.specs.Opening.{opening_program}
use Rattle.unit_format.specs.declared.units.TheConstants.{REGIONS, REGION_SIZE}
use Rattle.unit_format.specs.Regions.{IsRegion}
use Rattle.unit_format.specs.Units.{SmallFile, unit_size, unit_spelling, units_spelling}
use Rattle.pack_files.specs.Putting.{put_program}
use Rattle.pack_files.specs.Scanning.{scan_program}
use Rattle.pack_files.specs.declared.scan.ScanStuck.{ScanStuck}
use Rattle.pack_files.specs.declared.scan.ScanStuck.TheVariants as scan
use Rattle.pack_input.specs.declared.files.NamedFile.{NamedFile}
use Rattle.pack_laws.specs.Scanned.{region_bytes, region_start, region_stop}
use Rattle.lone_flow.specs.Beginning.{BeginsAt, BeginsWithout, ScansFor, opens, opens_none, within_region}
use Rattle.lone_flow.specs.Driving.{Makes}
use Rattle.lone_flow.specs.Packing.{EndsAfter, EndsPuts, Packs, PacksFrom, begins_stuck, goes_on, puts, writer_stuck}
use Rattle.lone_flow.specs.Putting.{PutsAll, PutsUpTo, small_file}
use Rattle.lone_flow.specs.declared.packing.Packed.{Packed}
use Rattle.lone_flow.specs.declared.packing.Packed.TheVariants as packed
use Rattle.lone_flow.proofs.SmallPuts.Facts.{WasPut, put_cases, put_full, put_stopped, stuck_of}
use Rattle.outcomes.specs.Outcomes.{open_outcome, stuck_outcome, write_outcome}
use Rattle.writer_flow.specs.declared.handle.WriterHandle.{WriterHandle}
use Rattle.writer_flow.specs.declared.handle.WriterOut.{WriterOut}
use Rattle.writer_flow.specs.Opening.{open_program}
use Rattle.plain_machine.specs.Machine.{Plain, PlainActor, PlainRoom}
use Rattle.plain_machine.specs.Finding.{find}
use Rattle.plain_machine.specs.Landed.{bytes_seen, file_of}
use Rattle.plain_machine.specs.Running.{nobody}
use Rattle.plain_plays.specs.Packings.{BreaksRuleAt, HasByteFile, HasUnitsUpTo, PacksPlainly, all, behind, broken, end_behind, full, pack_statements, packer, packer_script, unit_writes, unmade, unopened, unwritten}
use Rattle.plain_plays.specs.Readers.{MirrorsReader}
use Rattle.plain_plays.specs.Saying.{BeginsPlainly, MetNoFault}
use Rattle.plain_plays.proofs.NotAlive.{dead_first}
use Rattle.plain_plays.proofs.Packings.Called.{MeetsNoFault, makes_rise, quiet_first, quiet_rest}
use Rattle.plain_plays.proofs.Packings.Placing.{ScansPlainly, OpensFile, ScanLaw, missing, opened, opens_file, scans_so}
use Rattle.plain_plays.proofs.Packings.Putting.{EndsPlainly, PutsPlainly, after_rises, each_rises, ends_so, put_rises, puts_so, unrefused_both}
use Rattle.plain_plays.proofs.Packings.Taking.{HasTaken, IsThere, both_taken, none_taken, said_over, zero_line}
use Rattle.plain_plays.proofs.Packings.Writing.{IsRefusalOf, MadeStatement, opens_on, writes_on}

-- ---- no part lowers the count of faults

same_rise : (start end : State) → end ≡ start → start.store.faults ≤ end.store.faults
same_rise start end same = subst (λ (s : State). start.store.faults ≤ s.store.faults) (sym same) (omega arith)

rise_both : (a b c : ℕ) → a ≤ b → b ≤ c → a ≤ c
rise_both a b c x y = omega (arith, x, y)

up_to_rises : (region : ℕ) (files : List NamedFile) (handle : WriterHandle) (at : ℕ) (start : State) (told : _) (end : State) → PutsUpTo region files handle at start told end → start.store.faults ≤ end.store.faults
up_to_rises region files handle at start told end u =
    rise_both start.store.faults u.between.store.faults end.store.faults (each_rises region u.before handle at start u.writer u.place u.between u.puts) (put_rises u.writer region u.place (small_file u.f) u.between told end u.last)

all_rises : (region : ℕ) (files : List NamedFile) (handle : WriterHandle) (at : ℕ) (start end : State) (told : _) → PutsAll region files handle at start told end → start.store.faults ≤ end.store.faults
all_rises region files handle at start end = put_cases (λ told. PutsAll region files handle at start told end → start.store.faults ≤ end.store.faults)
    (λ last until each. each_rises region files handle at start last until end each)
    (λ last u. up_to_rises region files handle at start _ end u)
    (λ why u. up_to_rises region files handle at start _ end u)

ends_rise : (start end : State) (told : Result Packed ScanStuck) (made : _) → EndsPuts made start told end → start.store.faults ≤ end.store.faults
ends_rise start end told = put_cases (λ made. EndsPuts made start told end → start.store.faults ≤ end.store.faults)
    (λ handle next e. after_rises handle (packed.All next) start told end e)
    (λ handle e. after_rises handle packed.Full start told end e)
    (λ why e. same_rise start end e.1)

from_rises : (name : Name) (region : ℕ) (files : List NamedFile) (at : ℕ) (start : State) (told : Result Packed ScanStuck) (end : State) → PacksFrom name region files at start told end → start.store.faults ≤ end.store.faults
from_rises name region files at start told end (puts handle at_open made after makes each ends) =
    rise_both start.store.faults at_open.store.faults end.store.faults (makes_rise (open_program name 0 64) start (Ok handle) at_open makes)
    (rise_both at_open.store.faults after.store.faults end.store.faults (all_rises region files handle at at_open after made each) (ends_rise after end told made ends))
from_rises name region files at start told end (writer_stuck why makes is) = makes_rise (open_program name 0 64) start (Err why) end makes

scans_rise : (reader : OpenReader) (region : ℕ) (start : State) (told : Result ℕ ScanStuck) (end : State) → ScansFor reader region start told end → start.store.faults ≤ end.store.faults
scans_rise reader region start (Ok place) end (r, makes, is) = makes_rise (scan_program reader region) start (Ok r) end makes
scans_rise reader region start (Err why) end makes = makes_rise (scan_program reader region) start (Err why) end makes

begins_rise : (name : Name) (region : ℕ) (start : State) (told : Result ℕ ScanStuck) (end : State) → BeginsAt name region start told end → start.store.faults ≤ end.store.faults
begins_rise name region start told end (opens reader at_open makes scans) =
    rise_both start.store.faults at_open.store.faults end.store.faults (makes_rise (opening_program name 1) start (Ok reader) at_open makes) (scans_rise reader region at_open told end scans)
begins_rise name region start told end (opens_none why makes without) = makes_rise (opening_program name 1) start (Err why) end makes

-- ---- where it begins

-- what the region told, as the machine's file has it
abbrev Tells : Plain → Name → ℕ → Result ℕ ScanStuck → Type 0
Tells p name region (Ok at) = HasUnitsUpTo p name region at × (at ≤ region_stop region)
Tells p name region (Err (scan.Bad place)) = BreaksRuleAt p name region place
Tells p name region (Err (scan.Stuck why)) = ⊥

record PlacesPlainly (p : Plain) (name : Name) (region : ℕ) (told : Result ℕ ScanStuck) (end : State) : Type 0 where
  m : Moment
  at : m.state ≡ end
  there : IsThere m p None
  tells : Tells p name region told

ends_in : (start end size : ℕ) (file spelled rest : List ℕ) → slice file start size ≡ spelled ++ rest → end ≡ start + length spelled → end ≤ start + size
ends_in start end size file spelled rest is ends =
    let long : length (slice file start size) ≡ length (spelled ++ rest) = ap (λ (bytes : List ℕ). length bytes) is in
    omega (arith, ends, long, length-append spelled rest, length-take size (drop start file))

-- the units of a region end in it
units_within : (region : ℕ) (file : List ℕ) (units : List SmallFile) (end : ℕ) → IsRegion (region_start region) (region_stop region) (region_bytes region file) units end → (region_start region ≤ end) × (end ≤ region_stop region)
units_within region file units end r =
    let spelled : end ≡ region_start region + length (units_spelling units) = r.ends in
    (omega (arith, spelled), ends_in (region_start region) end REGION_SIZE file (units_spelling units) r.rest r.spelled r.ends)

stays_within : (region end : ℕ) → region_start region ≤ end → end ≤ region_stop region → within_region region end ≡ end
stays_within region end from until = clamped (region * REGION_SIZE) ((region + 1) * REGION_SIZE) end from (omega (arith, until))
  where
    clamped : (low high n : ℕ) → low ≤ n → n ≤ high → min (max n low) high ≡ n
    clamped low high n above below = omega (arith, above, below)

start_within : (region : ℕ) → region_start region ≤ region_stop region
start_within region = omega arith

abbrev Read : Type 0
Read = Result OpenReader Stuck

ok_err : (out : Read) (reader : OpenReader) (why : Stuck) → out ≡ Ok reader → out ≡ Err why → ⊥
ok_err out reader why a b = cc

same_reader : (out : Read) (a b : OpenReader) → out ≡ Ok a → out ≡ Ok b → a ≡ b
same_reader out a b x y = cc

same_trouble : (out : Read) (a b : Stuck) → out ≡ Err a → out ≡ Err b → a ≡ b
same_trouble out a b x y = cc

module _ (law : ScanLaw) (name : Name) (region : ℕ) (known : region < REGIONS) (p : Plain) (are : HasByteFile p name) where
  scanned_on : (reader : OpenReader) (number : ℕ) (room : PlainRoom) → find p name ≡ Some number → slice_get p.rooms number ≡ Some room → (m : Moment) → IsThere m p None → MirrorsReader m reader (file_of number room)
      → (start : State) (told : Result ℕ ScanStuck) (end : State) → m.state ≡ start → ScansFor reader region start told end → MeetsNoFault start end → PlacesPlainly p name region told end
  scanned_on reader number room found stands m there it start (Ok place) end at (r, makes, is) quiet =
      let bytes : List ℕ = bytes_seen (file_of number room) in
      let c : ScansPlainly p bytes reader region (Ok r) end = scans_so law m p there reader (file_of number room) it region known (are number room found stands) start (Ok r) end at makes quiet in
      let has : IsRegion (region_start region) (region_stop region) (region_bytes region bytes) c.tells.files r.end = c.tells.has in
      let w = units_within region bytes c.tells.files r.end has in
      let here : r.end ≡ place = sym (is ∙ stays_within region r.end w.0 w.1) in
      let Has : ℕ → Type 0 = λ e. IsRegion (region_start region) (region_stop region) (region_bytes region bytes) c.tells.files e in
      record { m = c.m; at = c.at; there = c.there; tells = (behind number room c.tells.files found stands (subst Has here has), subst (λ e. e ≤ region_stop region) here w.1) }
  scanned_on reader number room found stands m there it start (Err (scan.Bad place)) end at makes quiet =
      let c : ScansPlainly p (bytes_seen (file_of number room)) reader region (Err (scan.Bad place)) end = scans_so law m p there reader (file_of number room) it region known (are number room found stands) start (Err (scan.Bad place)) end at makes quiet in
      record { m = c.m; at = c.at; there = c.there; tells = record { number = number; room = room; found = found; there = stands; bad = c.tells } }
  scanned_on reader number room found stands m there it start (Err (scan.Stuck why)) end at makes quiet =
      let c : ScansPlainly p (bytes_seen (file_of number room)) reader region (Err (scan.Stuck why)) end = scans_so law m p there reader (file_of number room) it region known (are number room found stands) start (Err (scan.Stuck why)) end at makes quiet in
      absurd (c.well why c.tells)

  read_on : (reader : OpenReader) (m : Moment) → IsThere m p None → OpensFile p name m (Ok reader) → (start : State) (told : Result ℕ ScanStuck) (end : State) → m.state ≡ start → ScansFor reader region start told end → MeetsNoFault start end → PlacesPlainly p name region told end
  read_on reader m there (missing none is) start told end at scans quiet = absurd (ok_err (Ok reader) reader (stuck.Refused refusal.NoRoom) refl is)
  read_on reader m there (opened other number room found stands is it) start told end at scans quiet =
      scanned_on reader number room found stands m there (subst (λ (r : OpenReader). MirrorsReader m r (file_of number room)) (sym (same_reader (Ok reader) reader other refl is)) it) start told end at scans quiet

  unread : (why : Stuck) (m : Moment) → IsThere m p None → OpensFile p name m (Err why) → (told : Result ℕ ScanStuck) (end : State) → m.state ≡ end → BeginsWithout region why told → PlacesPlainly p name region told end
  unread why m there (opened other number room found stands is it) told end at without = absurd (ok_err (Err why) other why is refl)
  unread why m there (missing none is) told end at (inl (gone, starts)) =
      record { m = m; at = at; there = there; tells = subst (Tells p name region) (sym starts) (unmade none refl, start_within region) }
  unread why m there (missing none is) told end at (inr (other, fails)) = absurd (other (same_trouble (Err why) why (stuck.Refused refusal.NoRoom) refl is))

  begins_so : (m : Moment) → IsThere m p None → (start : State) (told : Result ℕ ScanStuck) (end : State) → m.state ≡ start → BeginsAt name region start told end → MeetsNoFault start end → PlacesPlainly p name region told end
  begins_so m there start told end at (opens reader at_open makes scans) quiet =
      let a = makes_rise (opening_program name 1) start (Ok reader) at_open makes in
      let b = scans_rise reader region at_open told end scans in
      let o = opens_file m p there name start (Ok reader) at_open at makes (quiet_first start at_open end b quiet) in
      read_on reader o.m o.there o.shows at_open told end o.at scans (quiet_rest start at_open end a b quiet)
  begins_so m there start told end at (opens_none why makes without) quiet =
      let o = opens_file m p there name start (Err why) end at makes quiet in
      unread why o.m o.there o.shows told end o.at without

-- ---- from there on

-- one more behind others
writes_push : (at : ℕ) (files : List NamedFile) (f : NamedFile) → unit_writes at (files ++ f ∷ []) ≡ unit_writes at files ++ (Write (end_behind at files) (Hex (unit_spelling (small_file f))) ∷ [])
writes_push at [] f = refl
writes_push at (g ∷ files) f = ap (λ (ss : List Statement). Write at (Hex (unit_spelling (small_file g))) ∷ ss) (writes_push (at + unit_size (small_file g)) files f)

region_holds : (region n : ℕ) → n ≤ (region + 1) * REGION_SIZE → n ≤ region_stop region
region_holds region n fits = omega (arith, fits)

region_passed : (region n : ℕ) → (region + 1) * REGION_SIZE < n → region_stop region < n
region_passed region n long = omega (arith, long)

module _ (name : Name) (region : ℕ) (files : List NamedFile) (start : Moment) (p : Plain) (s : IsThere start p None) (at : ℕ) (units : HasUnitsUpTo p name region at) (within : at ≤ region_stop region) where
  abbrev Opened : WriterHandle → State → Type 0
  Opened handle mid = MadeStatement p (Open name) (open_outcome (Ok handle)) (Some handle) mid (λ because. Ok handle ≡ Err because) IsRefusalOf

  -- all were put, and the writer was closed
  closed_so : (handle : WriterHandle) (at_open after end : State) (first : List NamedFile) (last : WriterHandle) (until : ℕ) (made : Packed) (told : Result Packed ScanStuck) (d : Opened handle at_open) (r : PutsPlainly d.taken.last region at first last until after) (e : EndsPlainly r.taken.last made told end)
      → HasTaken p (pack_statements name at first) (zero_line (open_outcome (Ok handle)) ∷ (r.lines ++ e.lines)) e.left end
  closed_so handle at_open after end first last until made told d r e =
      both_taken p (Open name ∷ []) (unit_writes at first ++ (Sync ∷ Close ∷ [])) (zero_line (open_outcome (Ok handle)) ∷ []) (r.lines ++ e.lines) (Some handle) e.left at_open end d.taken
      (both_taken d.taken.last (unit_writes at first) (Sync ∷ Close ∷ []) r.lines e.lines (Some last) e.left after end r.taken e.taken)

  made_so : (handle : WriterHandle) (at_open after end : State) (last : WriterHandle) (until : ℕ) (told : Result Packed ScanStuck) (d : Opened handle at_open) (r : PutsPlainly d.taken.last region at files last until after) → EndsPlainly r.taken.last (packed.All until) told end → PacksPlainly name region files p told end.store
  made_so handle at_open after end last until told d r e =
      all at (zero_line (open_outcome (Ok handle)) ∷ (r.lines ++ e.lines)) units (subst (λ n. n ≤ region_stop region) r.ends (r.within within))
      (said_over start p (pack_statements name at files) (zero_line (open_outcome (Ok handle)) ∷ (r.lines ++ e.lines)) e.left end s.mirrors (closed_so handle at_open after end files last until (packed.All until) told d r e))
      (tt, unrefused_both r.lines e.lines r.unrefused e.unrefused) (e.well ∙ ap (λ n. Ok (packed.All n)) r.ends)

  full_so : (handle : WriterHandle) (at_open after end : State) (first : List NamedFile) (f : NamedFile) (rest : List NamedFile) (last : WriterHandle) (until : ℕ) (told : Result Packed ScanStuck) → files ≡ first ++ f ∷ rest → (region + 1) * REGION_SIZE < until + unit_size (small_file f)
      → (d : Opened handle at_open) (r : PutsPlainly d.taken.last region at first last until after) → EndsPlainly r.taken.last packed.Full told end → PacksPlainly name region files p told end.store
  full_so handle at_open after end first f rest last until told split long d r e =
      full at first f rest (zero_line (open_outcome (Ok handle)) ∷ (r.lines ++ e.lines)) units split (subst (λ n. n ≤ region_stop region) r.ends (r.within within))
      (subst (λ n. region_stop region < n + unit_size (small_file f)) r.ends (region_passed region (until + unit_size (small_file f)) long))
      (said_over start p (pack_statements name at first) (zero_line (open_outcome (Ok handle)) ∷ (r.lines ++ e.lines)) e.left end s.mirrors (closed_so handle at_open after end first last until packed.Full told d r e))
      (tt, unrefused_both r.lines e.lines r.unrefused e.unrefused) e.well

  -- a write was refused
  refused_so : (handle : WriterHandle) (at_open after end : State) (first : List NamedFile) (f : NamedFile) (rest : List NamedFile) (last : WriterHandle) (until : ℕ) (told : Result Packed ScanStuck) (out : WriterOut) (why : Stuck) → files ≡ first ++ f ∷ rest → until + unit_size (small_file f) ≤ (region + 1) * REGION_SIZE
      → (d : Opened handle at_open) (r : PutsPlainly d.taken.last region at first last until after)
      → MadeStatement r.taken.last (Write until (Hex (unit_spelling (small_file f)))) (write_outcome until (length (unit_spelling (small_file f))) out.result) out.handle end (λ because. out.result ≡ Err because) IsRefusalOf → out.result ≡ Err why → told ≡ Err (scan.Stuck why) → PacksPlainly name region files p told end.store
  refused_so handle at_open after end first f rest last until told out why split fits d r w stuck_at is =
      let (because, refused) = w.caused why stuck_at in
      let line : Line = zero_line (write_outcome until (length (unit_spelling (small_file f))) out.result) in
      let write : ℕ → List Statement = λ n. Write n (Hex (unit_spelling (small_file f))) ∷ [] in
      let made : HasTaken p (Open name ∷ (unit_writes at first ++ write until)) (zero_line (open_outcome (Ok handle)) ∷ (r.lines ++ line ∷ [])) out.handle end =
      both_taken p (Open name ∷ []) (unit_writes at first ++ write until) (zero_line (open_outcome (Ok handle)) ∷ []) (r.lines ++ line ∷ []) (Some handle) out.handle at_open end d.taken
      (both_taken d.taken.last (unit_writes at first) (write until) r.lines (line ∷ []) (Some last) out.handle after end r.taken w.taken) in
      let same : unit_writes at first ++ write until ≡ unit_writes at (first ++ f ∷ []) = ap (λ n. unit_writes at first ++ write n) r.ends ∙ sym (writes_push at first f) in
      let taken : HasTaken p (Open name ∷ unit_writes at (first ++ f ∷ [])) (zero_line (open_outcome (Ok handle)) ∷ (r.lines ++ line ∷ [])) out.handle end =
      subst (λ (ss : List Statement). HasTaken p (Open name ∷ ss) (zero_line (open_outcome (Ok handle)) ∷ (r.lines ++ line ∷ [])) out.handle end) same made in
      unwritten at first f rest (zero_line (open_outcome (Ok handle)) ∷ r.lines) line because units split (subst (λ n. n + unit_size (small_file f) ≤ region_stop region) r.ends (region_holds region (until + unit_size (small_file f)) fits))
      (said_over start p (Open name ∷ unit_writes at (first ++ f ∷ [])) (zero_line (open_outcome (Ok handle)) ∷ (r.lines ++ line ∷ [])) out.handle end s.mirrors taken) (tt, r.unrefused)
      (ap (write_outcome until (length (unit_spelling (small_file f)))) stuck_at ∙ ap stuck_outcome refused) (is ∙ ap (λ t. Err (scan.Stuck t)) refused)

  -- a put that ended in a trouble was refused
  stopped_so : (handle : WriterHandle) (at_open after end : State) (first : List NamedFile) (f : NamedFile) (rest : List NamedFile) (last : WriterHandle) (until : ℕ) (told : Result Packed ScanStuck) (out : WriterOut) (why : Stuck) → files ≡ first ++ f ∷ rest → until + unit_size (small_file f) ≤ (region + 1) * REGION_SIZE
      → (d : Opened handle at_open) (r : PutsPlainly d.taken.last region at first last until after)
      → MadeStatement r.taken.last (Write until (Hex (unit_spelling (small_file f)))) (write_outcome until (length (unit_spelling (small_file f))) out.result) out.handle end (λ because. out.result ≡ Err because) IsRefusalOf → (out.handle ≡ None → ⊥) → told ≡ Err (scan.Stuck why)
      → (h : Option WriterHandle) (result : Result ℕ Stuck) → out.handle ≡ h → out.result ≡ result → stuck_of h result ≡ Some why → PacksPlainly name region files p told end.store
  stopped_so handle at_open after end first f rest last until told out why split fits d r w some is h (Err because) back ends stuck_at =
      refused_so handle at_open after end first f rest last until told out why split fits d r w (ends ∙ ap Err (let same : because ≡ why = (let x : Some because ≡ Some why = stuck_at in cc) in same)) is
  stopped_so handle at_open after end first f rest last until told out why split fits d r w some is None (Ok stamp) back ends stuck_at = absurd (some back)
  stopped_so handle at_open after end first f rest last until told out why split fits d r w some is (Some other) (Ok stamp) back ends stuck_at = absurd (let wrong : None ≡ Some why = stuck_at in cc)

  module _ (handle : WriterHandle) (at_open after end : State) (told : Result Packed ScanStuck) (d : Opened handle at_open) (quiet : MeetsNoFault at_open end) where
    put_so : (made : _) → PutsAll region files handle at at_open made after → EndsPuts made after told end → PacksPlainly name region files p told end.store
    put_so = put_cases (λ made. PutsAll region files handle at at_open made after → EndsPuts made after told end → PacksPlainly name region files p told end.store)
        (λ last until each ends.
        let a = each_rises region files handle at at_open last until after each in
        let b = after_rises last (packed.All until) after told end ends in
        let r = puts_so region files d.taken.m d.taken.last handle at at_open last until after d.taken.at d.taken.there each (quiet_first at_open after end b quiet) in
        made_so handle at_open after end last until told d r (ends_so r.taken.m r.taken.last last (packed.All until) after told end r.taken.at r.taken.there ends (quiet_rest at_open after end a b quiet)))
        (λ last u ends.
        let (long, same, stays) = put_full u.writer region u.place (small_file u.f) u.between last after u.last in
        let here : EndsAfter u.writer packed.Full u.between told end = subst (λ (z : WriterHandle × State). EndsAfter z.0 packed.Full z.1 told end) (λ i. (same i, stays i)) ends in
        let a = each_rises region u.before handle at at_open u.writer u.place u.between u.puts in
        let b = after_rises u.writer packed.Full u.between told end here in
        let r = puts_so region u.before d.taken.m d.taken.last handle at at_open u.writer u.place u.between d.taken.at d.taken.there u.puts (quiet_first at_open u.between end b quiet) in
        full_so handle at_open u.between end u.before u.f u.behind u.writer u.place told u.split long d r
        (ends_so r.taken.m r.taken.last u.writer packed.Full u.between told end r.taken.at r.taken.there here (quiet_rest at_open u.between end a b quiet)))
        (λ why u ends.
        let w : WasPut u.writer region u.place (small_file u.f) u.between (λ out. stuck_of out.handle out.result ≡ Some why) after = put_stopped u.writer region u.place (small_file u.f) u.between why after u.last in
        let makes : Makes (put_program u.writer u.place (small_file u.f)) u.between w.out end = subst (λ (x : State). Makes (put_program u.writer u.place (small_file u.f)) u.between w.out x) (sym ends.1) w.makes in
        let a = each_rises region u.before handle at at_open u.writer u.place u.between u.puts in
        let b = makes_rise (put_program u.writer u.place (small_file u.f)) u.between w.out end makes in
        let r = puts_so region u.before d.taken.m d.taken.last handle at at_open u.writer u.place u.between d.taken.at d.taken.there u.puts (quiet_first at_open u.between end b quiet) in
        let x = writes_on r.taken.m r.taken.last u.between end r.taken.at (quiet_rest at_open u.between end a b quiet) u.writer r.taken.there u.place (small_file u.f) w.out makes in
        stopped_so handle at_open u.between end u.before u.f u.behind u.writer u.place told w.out why u.split w.fits d r x.0 x.1 ends.0 w.out.handle w.out.result refl refl w.ended)

  -- the region was read by this moment
  from_so : (m : Moment) → IsThere m p None → (begun : State) (told : Result Packed ScanStuck) (end : State) → m.state ≡ begun → PacksFrom name region files at begun told end → MeetsNoFault begun end → PacksPlainly name region files p told end.store
  from_so m there begun told end here (puts handle at_open made after makes each ends) quiet =
      let a = makes_rise (open_program name 0 64) begun (Ok handle) at_open makes in
      let b = rise_both at_open.store.faults after.store.faults end.store.faults (all_rises region files handle at at_open after made each) (ends_rise after end told made ends) in
      let d : Opened handle at_open = opens_on m p begun at_open here (quiet_first begun at_open end b quiet) name (Ok handle) there makes in
      put_so handle at_open after end told d (quiet_rest begun at_open end a b quiet) made each ends
  from_so m there begun told end here (writer_stuck why makes is) quiet =
      let d = opens_on m p begun end here quiet name (Err why) there makes in
      let (because, refused) = d.caused why refl in
      unopened at (zero_line (open_outcome (Err why))) because units (said_over start p (Open name ∷ []) (zero_line (open_outcome (Err why)) ∷ []) None end s.mirrors d.taken)
      (ap stuck_outcome refused) (is ∙ ap (λ t. Err (scan.Stuck t)) refused)

-- ---- all of it

module _ (law : ScanLaw) (name : Name) (region : ℕ) (files : List NamedFile) (known : region < REGIONS) (m : Moment) (p : Plain) (s : IsThere m p None) (are : HasByteFile p name) (start : State) (told : Result Packed ScanStuck) (end : State) (at : m.state ≡ start) (quiet : MeetsNoFault start end) where
  broken_so : (why : ScanStuck) → BeginsAt name region start (Err why) end → told ≡ Err why → PacksPlainly name region files p told end.store
  broken_so (scan.Bad place) begins is =
      let b = begins_so law name region known p are m s start (Err (scan.Bad place)) end at begins quiet in
      broken place b.tells (said_over m p [] [] None end s.mirrors (none_taken b.m p None end b.at b.there)) is
  broken_so (scan.Stuck why) begins is = absurd (begins_so law name region known p are m s start (Err (scan.Stuck why)) end at begins quiet).tells

  pub packs_so : Packs name region files start told end → PacksPlainly name region files p told end.store
  packs_so (goes_on place begun begins packs) =
      let x = begins_rise name region start (Ok place) begun begins in
      let y = from_rises name region files place begun told end packs in
      let b = begins_so law name region known p are m s start (Ok place) begun at begins (quiet_first start begun end y quiet) in
      from_so name region files m p s place b.tells.0 b.tells.1 b.m b.there begun told end b.at packs (quiet_rest start begun end x y quiet)
  packs_so (begins_stuck why begins is) = broken_so why begins is

-- ---- from a machine that begins

-- where no call met a fault
quiet_so : (start end : State) → MetNoFault start end → MeetsNoFault start end
quiet_so start end q = let same = q.none in record { none = omega (arith, same); counted = q.counted }

pub begun_packs : ScanLaw → (name : Name) (region : ℕ) (files : List NamedFile) (p : Plain) (start : State) (told : Result Packed ScanStuck) (end : State) → region < REGIONS → BeginsPlainly (packer_script []) start p → HasByteFile p name → Packs name region files start told end → MetNoFault start end
    → PacksPlainly name region files p told end.store
begun_packs law name region files p start told end known begins are packs quiet =
    let m : Moment = record { state = start; issued = begins.mirrored.issued } in
    let there : IsThere m p None = record {
      mirrors = begins.mirrored.mirrors;
      actor = nobody packer;
      has = record { there = ap (λ (l : List PlainActor). slice_get l 0) begins.actors; its_own = tt };
      out = dead_first m p begins.mirrored.mirrors begins.dead_out;
    } in
    packs_so law name region files known m p there are start told end refl (quiet_so start end quiet) packs
