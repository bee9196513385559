-- Files that were packed: no loss of power takes one of their writes.
use Rattle.std.proofs.Common.{◌≡◌, inl, inr, arith, min, max, ◌≤◌, ◌*◌, ℕ, ◌+◌, List, [], ◌∷◌, ◌++◌, Option, Some, None, Result, Ok, Err, refl, sym, ap, ◌∙◌, subst}
use Rattle.std.proofs.lemmas.List.{append-nil, append_assoc}
use Rattle.mount_model.specs.Paths.{Name}
use Rattle.mount_model.specs.State.{State}
use Rattle.mount_sound.specs.Ledger.{Written}
use Rattle.mount_model.specs.declared.stuck.Stuck.{Stuck as Trouble}
use Rattle.mount_model.specs.declared.stuck.Stuck.TheVariants.{Fault}
use Rattle.pack_files.specs.declared.scan.ScanStuck.{ScanStuck}
use Rattle.pack_files.specs.declared.scan.ScanStuck.TheVariants.{Stuck}
use Rattle.lone_flow.specs.Driving.{Makes}
use Rattle.writer_flow.specs.declared.handle.WriterHandle.{WriterHandle}
use Rattle.writer_flow.specs.declared.handle.WriterOut.{WriterOut}
use Rattle.writer_flow.specs.Closing.{close_program}
use Rattle.writer_flow.specs.Opening.{open_program}
use Rattle.writer_flow.specs.Syncing.{sync_program}
use Rattle.opening_flow.specs.Opening.{opening_program}
use Rattle.unit_format.specs.declared.units.TheConstants.{REGION_SIZE}
use Rattle.pack_laws.specs.Scanned.{region_start, region_stop}
use Rattle.unit_format.specs.Units.{unit_size, unit_spelling}
use Rattle.reader_laws.specs.Moments.{Dropping, IsSoundAt, Moment, moment_after, next_moment}
use Rattle.reader_laws.proofs.Gathered.Facts.{follows, sound_after}
use Rattle.reader_laws.specs.Naming.{IsRoomNamed}
use Rattle.pack_files.specs.Scanning.{scan_program}
use Rattle.pack_files.specs.Putting.{put_program}
use Rattle.pack_input.specs.declared.files.NamedFile.{NamedFile}
use Rattle.lone_flow.specs.declared.packing.Packed.{Packed}
use Rattle.lone_flow.specs.declared.packing.Packed.TheVariants as packed
use Rattle.lone_flow.specs.Beginning.{BeginsAt, opens, opens_none}
use Rattle.lone_flow.specs.Packing.{EndsPuts, Packs, PacksFrom, begins_stuck, goes_on, puts as put_so, writer_stuck}
use Rattle.lone_flow.specs.Putting.{IsNoMore, PutsAll, PutsEach, full, made, put_of, small_file}
use Rattle.lone_flow.proofs.SmallPuts.Facts.{put_cases}
use Rattle.lone_flow.specs.Settling.{Closes, Settles}
use Rattle.packing_laws.specs.Lasting.{KeepsWrites}
use Rattle.packing_laws.specs.Packed.{ArePuts, HasPacked, HasPut}
use Rattle.packing_laws.proofs.OnlyUnits.Alone.{Comes, IsMade, Reaches, comes_both, comes_none, is_made, made_reaches, reaches_on}
use Rattle.packing_laws.proofs.Kept.Lasting.{KeptLaw, keeps_later}
use Rattle.packing_laws.proofs.Puts.Named.{Named, writer_named}
use Rattle.packing_laws.proofs.Puts.Putting.{Adds, HasWritten, adds}
use Rattle.packing_laws.proofs.Puts.Syncing.{Opens, opens as opens_writer, synced_keeps}

ok_is : (a b : ℕ) → ◌≡◌ {A = Result ℕ ScanStuck} (Ok a) (Ok b) → a ≡ b
ok_is a b e = cc

ok_not : (a : ℕ) (why : ScanStuck) → ◌≡◌ {A = Result ℕ ScanStuck} (Ok a) (Err why) → ⊥
ok_not a why e = cc

-- ---- where it begins

pub begun : (name : Name) (region at : ℕ) (m : Moment) (end : State) → BeginsAt name region m.state (Ok at) end → Reaches m end
begun name region at m end (opens reader opened makes (r, scans, place)) =
    let first : Reaches m opened = made_reaches (opening_program name 1) m (Ok reader) opened (is_made (opening_program name 1) m m.state (Ok reader) opened refl makes) in
    let then : Reaches first.to end = made_reaches (scan_program reader region) first.to (Ok r) end (is_made (scan_program reader region) first.to opened (Ok r) end first.at scans) in
    reaches_on m first.to end first.comes then
begun name region at m end (opens_none why makes without) = made_reaches (opening_program name 1) m (Err why) end (is_made (opening_program name 1) m m.state (Err why) end refl makes)

-- it begins in the region
between : (low high place : ℕ) → low ≤ high → (low ≤ min (max place low) high) × (min (max place low) high ≤ high)
between low high place order = (omega (arith, order), omega (arith, order))

begins_in : (name : Name) (region at : ℕ) (start end : State) → BeginsAt name region start (Ok at) end → (region_start region ≤ at) × (at ≤ region_stop region)
begins_in name region at start end (opens reader opened makes (r, scans, place)) =
    let size : region_start region ≤ (region + 1) * REGION_SIZE = omega arith in
    let stop : (region + 1) * REGION_SIZE ≡ region_stop region = omega arith in
    let b = between (region_start region) ((region + 1) * REGION_SIZE) r.end size in
    (subst (λ n. region_start region ≤ n) (sym place) b.0, subst (λ n. at ≤ n) stop (subst (λ n. n ≤ (region + 1) * REGION_SIZE) (sym place) b.1))
begins_in name region at start end (opens_none why makes (inl (gone, told))) = (let is : at ≡ region_start region = ok_is at (region_start region) told in (omega (arith, is), omega (arith, is)))
begins_in name region at start end (opens_none why makes (inr (other, told))) = absurd (ok_not at (Stuck why) told)

-- ---- all puts

put_told : (next : ℕ) (h : Option WriterHandle) (r : Result ℕ Trouble) (writer : WriterHandle) (n : ℕ) → put_of n (Some writer) (Ok 0) ≡ put_of next h r → (stamp : ℕ) × (r ≡ Ok stamp) × (h ≡ Some writer) × (n ≡ next)
put_told next h (Err why) writer n is = absurd (cc)
put_told next None (Ok stamp) writer n is = absurd (cc)
put_told next (Some handle) (Ok stamp) writer n is =
    let one : writer ≡ handle = cc in
    let other : n ≡ next = cc in
    (stamp, refl, ap (λ x. Some x) (sym one), other)

in_region : (region next place : ℕ) → next ≡ place → place ≤ (region + 1) * REGION_SIZE → next ≤ region_stop region
in_region region next place is fits = omega (arith, is, fits)

record PutAll (m : Moment) (last : WriterHandle) (d : Dropping) (writes : List Written) (at until : ℕ) (files : List NamedFile) (end : State) : Type 0 where
  pub reaches : Reaches m end
  pub more : List Written
  pub are : ArePuts at until files more
  pub has : HasWritten reaches.to last d (writes ++ more)

put_each : (region : ℕ) (files : List NamedFile) (m : Moment) (start : State) (handle : WriterHandle) (at : ℕ) (last : WriterHandle) (until : ℕ) (end : State) (d : Dropping) (writes : List Written) → m.state ≡ start → HasWritten m handle d writes → PutsEach region files handle at start last until end
    → PutAll m last d writes at until files end
put_each region [] m start handle at last until end d writes here h (same, there, over) =
    let all : HasWritten m last d writes = subst (λ x. HasWritten m x d writes) (sym same) h in
    record {
      reaches = record { to = m; comes = comes_none m; at = here ∙ sym over };
      more = [];
      are = there;
      has = subst (λ ws. HasWritten m last d ws) (sym (append-nil writes)) all;
    }
put_each region (f ∷ files) m start handle at last until end d writes here h (writer, next, between, full p, others) = absurd (subst IsNoMore (sym p.told_so) tt)
put_each region (f ∷ files) m start handle at last until end d writes here h (writer, next, between, made p, others) =
    let t = put_told (at + unit_size (small_file f)) p.out.handle p.out.result writer next p.told_so in
    let b : IsMade (put_program handle at (small_file f)) m p.out between = is_made (put_program handle at (small_file f)) m start p.out between here p.makes in
    let a : Adds m handle writer at (unit_spelling (small_file f)) d writes between = adds m handle writer at (unit_spelling (small_file f)) t.0 d writes p.out between h b t.1 t.2 in
    let rest : PutAll a.reaches.to last d (writes ++ a.w ∷ []) next until files end = put_each region files a.reaches.to between writer next last until end d (writes ++ a.w ∷ []) a.reaches.at a.has others in
    record {
      reaches = reaches_on m a.reaches.to end a.reaches.comes rest.reaches;
      more = a.w ∷ rest.more;
      are = (a.at_is, a.bytes_are, subst (λ n. ArePuts n until files rest.more) t.3 rest.are);
      has = subst (λ ws. HasWritten rest.reaches.to last d ws) (append_assoc writes (a.w ∷ []) rest.more) rest.has;
    }

-- they end in the region
put_within : (region : ℕ) (files : List NamedFile) (handle : WriterHandle) (at : ℕ) (start : State) (last : WriterHandle) (until : ℕ) (end : State) → at ≤ region_stop region → PutsEach region files handle at start last until end → until ≤ region_stop region
put_within region [] handle at start last until end low (same, there, over) = omega (arith, low, there)
put_within region (f ∷ files) handle at start last until end low (writer, next, between_them, full p, others) = absurd (subst IsNoMore (sym p.told_so) tt)
put_within region (f ∷ files) handle at start last until end low (writer, next, between_them, made p, others) =
    let t = put_told (at + unit_size (small_file f)) p.out.handle p.out.result writer next p.told_so in
    let fits : at + unit_size (small_file f) ≤ (region + 1) * REGION_SIZE = p.fits in
    put_within region files writer next between_them last until end (in_region region next (at + unit_size (small_file f)) t.3 fits) others

-- ---- the end of the writer

no_trouble : (why : Trouble) → ◌≡◌ {A = Result (Unit {0}) Trouble} (Ok tt) (Err why) → ⊥
no_trouble why is = cc

settled : (h : Option WriterHandle) (r : Result ℕ Trouble) (start end : State) → Closes h r start (Ok tt) end → (handle : WriterHandle) × (n : ℕ) × (r ≡ Ok n) × (out : WriterOut) × Makes (close_program handle) start out end
settled h (Err why) start end c = absurd (no_trouble why c.0)
settled None (Ok n) start end c = absurd (no_trouble Fault c.0)
settled (Some handle) (Ok n) start end c = (handle, n, refl, c.0, c.1)

-- ---- the whole

-- the puts were settled from this moment on
put_and_settled : KeptLaw → (region : ℕ) (m : Moment) (files : List NamedFile) (handle : WriterHandle) (at until : ℕ) (d : Dropping) (writes : List Written) (before : Moment) (start end : State) → IsSoundAt before → Comes before m → m.state ≡ start → region_start region ≤ at → until ≤ region_stop region → ArePuts at until files writes → HasWritten m handle d writes → Settles handle start (Ok tt) end
    → HasPut region files until d before end
put_and_settled law region m files handle at until d writes before start end sound comes here low high are h s =
    let c = settled s.synced.handle s.synced.result s.between end s.closes in
    let b : IsMade (sync_program handle) m s.synced s.between = is_made (sync_program handle) m start s.synced s.between here s.syncs in
    let sound_m : IsSoundAt m = subst (λ x. IsSoundAt x) comes.ends (sound_after before comes.events comes.lawful sound) in
    let one : Reaches m s.between = made_reaches (sync_program handle) m s.synced s.between b in
    let keeps : KeepsWrites one.to d writes = synced_keeps m handle d writes s.synced s.between c.1 sound_m h b c.2 in
    let sound_one : IsSoundAt one.to = subst (λ x. IsSoundAt x) one.comes.ends (sound_after m one.comes.events one.comes.lawful sound_m) in
    let two : Reaches one.to end = made_reaches (close_program c.0) one.to c.3 end (is_made (close_program c.0) one.to s.between c.3 end one.at c.4) in
    let kept : KeepsWrites two.to d writes = subst (λ x. KeepsWrites x d writes) two.comes.ends (keeps_later law one.to two.comes.events d writes sound_one two.comes.lawful keeps) in
    let all : Comes before two.to = comes_both before m two.to comes (comes_both m one.to two.to one.comes two.comes) in
    record {
      events = all.events;
      lawful = all.lawful;
      ends = sym (follows before all.events).0 ∙ ap (λ (x : Moment). x.state) all.ends ∙ two.at;
      at = at;
      writes = writes;
      from = low;
      within = high;
      puts = are;
      keeps = subst (λ x. KeepsWrites x d writes) (sym all.ends) kept;
    }

same_end : (a b : ℕ) → packed.All a ≡ packed.All b → a ≡ b
same_end a b is = cc

not_full : (n : ℕ) → packed.All n ≡ packed.Full → ⊥
not_full n is = cc

not_stuck : (out : Packed) (why : ScanStuck) → Ok out ≡ Err why → ⊥
not_stuck out why is = cc

from_made : KeptLaw → (region : ℕ) (files : List NamedFile) (m begun_at : Moment) (handle : WriterHandle) (at until : ℕ) (d : Dropping) (last : WriterHandle) (next : ℕ) (start after end : State) → IsSoundAt m → Comes m begun_at → begun_at.state ≡ start → region_start region ≤ at → at ≤ region_stop region → HasWritten begun_at handle d []
    → PutsEach region files handle at start last next after → packed.All until ≡ packed.All next → Settles last after (Ok tt) end → HasPut region files until d m end
from_made law region files m from handle at until d last next start after end sound comes here low high h all same settles =
    let p : PutAll from last d [] at next files after = put_each region files from start handle at last next after d [] here h all in
    put_and_settled law region p.reaches.to files last at until d p.more m after end sound (comes_both m from p.reaches.to comes p.reaches.comes) p.reaches.at low
    (subst (λ n. n ≤ region_stop region) (sym (same_end until next same)) (put_within region files handle at start last next after high all)) (subst (λ n. ArePuts at n files p.more) (sym (same_end until next same)) p.are) p.has settles

packed_from : KeptLaw → (name : Name) (region : ℕ) (files : List NamedFile) (at until : ℕ) (m begun_at : Moment) (start end : State) → IsSoundAt m → Comes m begun_at → begun_at.state ≡ start → region_start region ≤ at → at ≤ region_stop region → PacksFrom name region files at start (Ok (packed.All until)) end → HasPacked name region files until m end
packed_from law name region files at until m from start end sound comes here low high (put_so handle opened put after makes all ends) =
    let b : IsMade (open_program name 0 64) from (Ok handle) opened = is_made (open_program name 0 64) from start (Ok handle) opened here makes in
    let r : Reaches from opened = made_reaches (open_program name 0 64) from (Ok handle) opened b in
    let sound_from : IsSoundAt from = subst (λ x. IsSoundAt x) comes.ends (sound_after m comes.events comes.lawful sound) in
    let o : Opens from handle name 0 64 opened b = opens_writer from handle name 0 64 opened sound_from b in
    let n : Named (next_moment from b.greeting) name o.d.room r.to = writer_named from handle name 0 64 opened o.d sound_from b o.has in
    let greets : Comes from (next_moment from b.greeting) = record { events = b.greeting ∷ []; lawful = (b.lawful.0, b.lawful.1, tt); ends = refl } in
    let leads : Comes (next_moment from b.greeting) (moment_after (next_moment from b.greeting) n.opening) = record { events = n.opening; lawful = n.lawful; ends = refl } in
    let whole : Comes m (moment_after (next_moment from b.greeting) n.opening) = comes_both m from (moment_after (next_moment from b.greeting) n.opening) comes (comes_both from (next_moment from b.greeting) (moment_after (next_moment from b.greeting) n.opening) greets leads) in
    let sound_met : IsSoundAt (moment_after m whole.events) = sound_after m whole.events whole.lawful sound in
    let on : Comes (moment_after m whole.events) r.to = subst (λ x. Comes x r.to) (sym whole.ends) n.on in
    let met : Moment = moment_after m whole.events in
    record {
      opening = whole.events;
      lawful = whole.lawful;
      writer = o.d;
      named = subst (λ x. IsRoomNamed x name o.d.room) (sym whole.ends) n.named;
      put = put_cases (λ p. PutsAll region files handle at opened p after → EndsPuts p after (Ok (packed.All until)) end → HasPut region files until o.d met end)
          (λ last next each ended. from_made law region files met r.to handle at until o.d last next opened after end sound_met on r.at low high o.has each ended.0 ended.1)
          (λ last up ended. absurd (not_full until ended.0))
          (λ why up ended. absurd (not_stuck (packed.All until) (Stuck why) ended.0)) put all ends;
    }
packed_from law name region files at until m from start end sound comes here low high (writer_stuck why makes told) = absurd (cc)

pub packed_keeps : KeptLaw → (name : Name) (region : ℕ) (files : List NamedFile) (until : ℕ) (m : Moment) (end : State) → IsSoundAt m → Packs name region files m.state (Ok (packed.All until)) end → HasPacked name region files until m end
packed_keeps law name region files until m end sound (goes_on at from begins packs) =
    let r : Reaches m from = begun name region at m from begins in
    let b = begins_in name region at m.state from begins in
    packed_from law name region files at until m r.to from end sound r.comes r.at b.0 b.1 packs
packed_keeps law name region files until m end sound (begins_stuck why begins told) = absurd (cc)
