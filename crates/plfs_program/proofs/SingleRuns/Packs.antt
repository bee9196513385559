-- A packing goes one way.
use Rattle.std.proofs.Common.{◌≡◌, ℕ, ◌+◌, ◌*◌, ◌<◌, ◌≤◌, Bool, true, false, inl, inr, List, [], ◌∷◌, ◌++◌, Option, Some, None, Result, Ok, Err, nat_le, refl, sym, ap, ◌∙◌, subst, append_assoc, arith}
use Rattle.std.proofs.lemmas.Bool.Decides.{nat_tests}
use Rattle.std.proofs.lemmas.List.{append-nil}
use Rattle.mount_model.specs.History.{Event}
use Rattle.mount_model.specs.State.{State}
use Rattle.mount_model.specs.Paths.{Name}
use Rattle.mount_model.specs.declared.stuck.Stuck.{Stuck as Trouble}
use Rattle.mount_model.specs.declared.stuck.Stuck.TheVariants.{Fault}
use Rattle.index_reader.specs.declared.opened.OpenReader.{OpenReader}
use Rattle.writer_flow.specs.declared.handle.WriterHandle.{WriterHandle}
use Rattle.writer_flow.specs.declared.handle.WriterOut.{WriterOut}
use Rattle.writer_flow.specs.Closing.{close_program}
use Rattle.writer_flow.specs.Opening.{open_program}
use Rattle.writer_flow.specs.Syncing.{sync_program}
use Rattle.opening_flow.specs.Opening.{opening_program}
use Rattle.unit_format.specs.declared.finding.Region.{Region}
use Rattle.unit_format.specs.declared.units.TheConstants.{REGION_SIZE}
use Rattle.unit_format.specs.Units.{SmallFile, unit_size}
use Rattle.pack_files.specs.declared.scan.ScanStuck.{ScanStuck}
use Rattle.pack_files.specs.declared.scan.ScanStuck.TheVariants.{Stuck}
use Rattle.pack_files.specs.Putting.{put_program}
use Rattle.pack_files.specs.Scanning.{scan_program}
use Rattle.pack_input.specs.declared.files.NamedFile.{NamedFile}
use Rattle.lone_flow.specs.declared.packing.Packed.{Packed}
use Rattle.lone_flow.specs.declared.packing.Packed.TheVariants as packed
use Rattle.lone_flow.specs.declared.putting.Put.{Put}
use Rattle.lone_flow.specs.declared.putting.Put.TheVariants as put
use Rattle.lone_flow.specs.Beginning.{BeginsAt, BeginsWithout, ScansFor, opens, opens_none, within_region}
use Rattle.lone_flow.specs.Packing.{EndsAfter, EndsPuts, Packs, PacksFrom, begins_stuck, goes_on, puts, writer_stuck}
use Rattle.lone_flow.specs.Putting.{IsNoMore, Puts, PutsAll, PutsEach, PutsUpTo, full, made, put_of, small_file}
use Rattle.lone_flow.specs.Settling.{Closes, Settles, closed_as}
use Rattle.plfs_program.specs.LoneCalls.{beginning_calls, behind_puts_calls, closing_calls, ending_calls, from_place_calls, front_calls, packing_calls, place_calls, put_calls, puts_calls, settling_calls, until_calls}
use Rattle.plfs_program.proofs.SingleRuns.OneWay.{Doing, DoneBy, GoesOneWay, Gives, MakesBy, Then, as_one_way, gives_one_way, makes_one_way, then_gives, then_one_way}

-- ---- where it begins

abbrev Begun : Type 0
Begun = Result ℕ ScanStuck

abbrev place_of : ℕ → Result Region ScanStuck → Begun
place_of region (Ok r) = Ok (within_region region r.end)
place_of region (Err why) = Err why

abbrev ScansSo : OpenReader → ℕ → Doing Begun
ScansSo reader region = Then (MakesBy (scan_program reader region)) (λ r. Gives (place_of region r))

scans_so : (reader : OpenReader) (region : ℕ) (start : State) (told : Begun) (end : State) (s : ScansFor reader region start told end) → ScansSo reader region start (place_calls reader region start told end s) told end
scans_so reader region start (Ok place) end (r, scan, is) = then_gives (MakesBy (scan_program reader region)) (place_of region) start scan.events (Ok r) (Ok place) end (scan, refl) (ap Ok is)
scans_so reader region start (Err why) end scan = then_gives (MakesBy (scan_program reader region)) (place_of region) start scan.events (Err why) (Err why) end (scan, refl) refl

abbrev WithoutSo : ℕ → Trouble → Doing Begun
WithoutSo region why start calls told end = Gives told start calls told end × BeginsWithout region why told

without_one : (region : ℕ) (why : Trouble) (a b : Begun) → BeginsWithout region why a → BeginsWithout region why b → a ≡ b
without_one region why a b (inl (gone, is)) (inl (gone_too, is_too)) = is ∙ sym is_too
without_one region why a b (inl (gone, is)) (inr (other, is_too)) = absurd (other gone)
without_one region why a b (inr (other, is)) (inl (gone, is_too)) = absurd (other gone)
without_one region why a b (inr (other, is)) (inr (other_too, is_too)) = is ∙ sym is_too

without_one_way : (region : ℕ) (why : Trouble) → GoesOneWay (WithoutSo region why)
without_one_way region why = record {
  leads = λ start calls r end g. (gives_one_way r).leads start calls r end g.0;
  one = λ plan counts start calls others r s end other told room keeps too g h. (without_one region why r s g.1 h.1, g.0.2 ∙ sym h.0.2);
}

abbrev BehindOpening : ℕ → Result OpenReader Trouble → Doing Begun
BehindOpening region (Ok reader) = ScansSo reader region
BehindOpening region (Err why) = WithoutSo region why

behind_opening : (region : ℕ) (opened : Result OpenReader Trouble) → GoesOneWay (BehindOpening region opened)
behind_opening region (Ok reader) = then_one_way (MakesBy (scan_program reader region)) (λ r. Gives (place_of region r)) (makes_one_way (scan_program reader region)) (λ r. gives_one_way (place_of region r))
behind_opening region (Err why) = without_one_way region why

abbrev BeginsSo : Name → ℕ → Doing Begun
BeginsSo name region = Then (MakesBy (opening_program name 1)) (BehindOpening region)

begins_so : (name : Name) (region : ℕ) (start : State) (told : Begun) (end : State) (b : BeginsAt name region start told end) → BeginsSo name region start (beginning_calls name region start told end b) told end
begins_so name region start told end (opens reader opened makes scans) = (Ok reader, opened, makes.events, place_calls reader region opened told end scans, refl, (makes, refl), scans_so reader region opened told end scans)
begins_so name region start told end (opens_none why makes without) = (Err why, end, makes.events, [], sym (append-nil makes.events), (makes, refl), ((refl, refl, refl), without))

abbrev BeginsBy : Name → ℕ → Doing Begun
BeginsBy name region = DoneBy (BeginsAt name region) (beginning_calls name region)

begins_one_way : (name : Name) (region : ℕ) → GoesOneWay (BeginsBy name region)
begins_one_way name region =
    as_one_way (BeginsAt name region) (beginning_calls name region) (BeginsSo name region) (begins_so name region) (then_one_way (MakesBy (opening_program name 1)) (BehindOpening region) (makes_one_way (opening_program name 1)) (behind_opening region))

-- ---- the puts

abbrev ends_at : ℕ → SmallFile → ℕ
ends_at at f = at + unit_size f

abbrev MadeSo : WriterHandle → ℕ → SmallFile → Doing Put
MadeSo handle at f = Then (MakesBy (put_program handle at f)) (λ (out : WriterOut). Gives (put_of (ends_at at f) out.handle out.result))

-- by whether the file ends in its region
abbrev PutSo : Bool → WriterHandle → ℕ → SmallFile → Doing Put
PutSo true handle at f = MadeSo handle at f
PutSo false handle at f = Gives (put.Full handle)

abbrev fits : ℕ → ℕ → SmallFile → Bool
fits region at f = nat_le (ends_at at f) ((region + 1) * REGION_SIZE)

put_one_way : (b : Bool) (handle : WriterHandle) (at : ℕ) (f : SmallFile) → GoesOneWay (PutSo b handle at f)
put_one_way true handle at f =
    then_one_way (MakesBy (put_program handle at f)) (λ (out : WriterOut). Gives (put_of (ends_at at f) out.handle out.result)) (makes_one_way (put_program handle at f)) (λ out. gives_one_way (put_of (ends_at at f) out.handle out.result))
put_one_way false handle at f = gives_one_way (put.Full handle)

-- behind a put the rest goes on from its place, or it ends all
abbrev PutsOn : (WriterHandle → ℕ → Doing Put) → Put → Doing Put
PutsOn rest (put.Made handle next) = rest handle next
PutsOn rest (put.Full handle) = Gives (put.Full handle)
PutsOn rest (put.Stopped why) = Gives (put.Stopped why)

abbrev AllPut : ℕ → List NamedFile → WriterHandle → ℕ → Doing Put
AllPut region [] handle at = Gives (put.Made handle at)
AllPut region (f ∷ files) handle at = Then (PutSo (fits region at (small_file f)) handle at (small_file f)) (PutsOn (λ writer next. AllPut region files writer next))

on_one_way : (rest : WriterHandle → ℕ → Doing Put) → ((handle : WriterHandle) (next : ℕ) → GoesOneWay (rest handle next)) → (told : Put) → GoesOneWay (PutsOn rest told)
on_one_way rest one (put.Made handle next) = one handle next
on_one_way rest one (put.Full handle) = gives_one_way (put.Full handle)
on_one_way rest one (put.Stopped why) = gives_one_way (put.Stopped why)

all_put_one_way : (region : ℕ) (files : List NamedFile) (handle : WriterHandle) (at : ℕ) → GoesOneWay (AllPut region files handle at)
all_put_one_way region [] handle at = gives_one_way (put.Made handle at)
all_put_one_way region (f ∷ files) handle at =
    then_one_way (PutSo (fits region at (small_file f)) handle at (small_file f)) (PutsOn (λ writer next. AllPut region files writer next)) (put_one_way (fits region at (small_file f)) handle at (small_file f))
    (on_one_way (λ writer next. AllPut region files writer next) (λ writer next. all_put_one_way region files writer next))

-- ---- what was told of them

le_true : (a b : ℕ) → a ≤ b → nat_le a b ≡ true
le_true a b le = grind (arith, nat_tests)

lt_false : (a b : ℕ) → b < a → nat_le a b ≡ false
lt_false a b lt = grind (arith, nat_tests)

fits_so : (region at : ℕ) (f : SmallFile) → at + unit_size f ≤ (region + 1) * REGION_SIZE → fits region at f ≡ true
fits_so region at f within = le_true (at + unit_size f) ((region + 1) * REGION_SIZE) within

too_long : (region at : ℕ) (f : SmallFile) → (region + 1) * REGION_SIZE < at + unit_size f → fits region at f ≡ false
too_long region at f past = lt_false (at + unit_size f) ((region + 1) * REGION_SIZE) past

put_shown : (handle : WriterHandle) (region at : ℕ) (f : SmallFile) (start : State) (told : Put) (end : State) (p : Puts handle region at f start told end) → PutSo (fits region at f) handle at f start (put_calls handle region at f start told end p) told end
put_shown handle region at f start told end (made m) =
    subst (λ (b : Bool). PutSo b handle at f start m.makes.events told end) (sym (fits_so region at f m.fits))
    (then_gives (MakesBy (put_program handle at f)) (λ (out : WriterOut). put_of (ends_at at f) out.handle out.result) start m.makes.events m.out told end (m.makes, refl) m.told_so)
put_shown handle region at f start told end (full l) = subst (λ (b : Bool). PutSo b handle at f start [] told end) (sym (too_long region at f l.long)) (l.told_so, refl, l.same)

each_shown : (region : ℕ) (files : List NamedFile) (handle : WriterHandle) (at : ℕ) (start : State) (last : WriterHandle) (until : ℕ) (end : State) (each : PutsEach region files handle at start last until end)
    → AllPut region files handle at start (front_calls region files handle at start last until end each) (put.Made last until) end
each_shown region [] handle at start last until end (same_writer, same_place, same) = ((λ i. put.Made (same_writer i) (same_place i)), refl, same)
each_shown region (f ∷ files) handle at start last until end (writer, next, between, one, others) = (
  put.Made writer next,
  between,
  put_calls handle region at (small_file f) start (put.Made writer next) between one,
  front_calls region files writer next between last until end others,
  refl,
  put_shown handle region at (small_file f) start (put.Made writer next) between one,
  each_shown region files writer next between last until end others,
)

-- a front was put, and then, by these calls, a put ended all
front_shown : (region : ℕ) (before : List NamedFile) (f : NamedFile) (behind : List NamedFile) (handle : WriterHandle) (at : ℕ) (start : State) (writer : WriterHandle) (place : ℕ) (between : State) (last : List Event) (told : Put) (end : State) → IsNoMore told
    → (each : PutsEach region before handle at start writer place between) → PutSo (fits region place (small_file f)) writer place (small_file f) between last told end
    → AllPut region (before ++ f ∷ behind) handle at start (front_calls region before handle at start writer place between each ++ last) told end
front_shown region [] f behind handle at start writer place between last told end ends (same_writer, same_place, same) shown =
    (told, end, last, [], sym (append-nil last), here, over told ends)
  where
    here : PutSo (fits region at (small_file f)) handle at (small_file f) start last told end
    here = subst (λ (z : WriterHandle × ℕ × State). PutSo (fits region z.1 (small_file f)) z.0 z.1 (small_file f) z.2 last told end) (λ i. (same_writer i, same_place i, same i)) shown

    over : (told : Put) → IsNoMore told → PutsOn (λ writer next. AllPut region behind writer next) told end [] told end
    over (put.Made w n) no_end = absurd no_end
    over (put.Full w) fine = (refl, refl, refl)
    over (put.Stopped why) fine = (refl, refl, refl)
front_shown region (g ∷ before) f behind handle at start writer place between last told end ends (w, next, mid, one, others) shown =
    let here : List Event = put_calls handle region at (small_file g) start (put.Made w next) mid one in
    let there : List Event = front_calls region before w next mid writer place between others in (
      put.Made w next,
      mid,
      here,
      there ++ last,
      append_assoc here there last,
      put_shown handle region at (small_file g) start (put.Made w next) mid one,
      front_shown region before f behind w next mid writer place between last told end ends others shown,
    )

until_shown : (region : ℕ) (files : List NamedFile) (handle : WriterHandle) (at : ℕ) (start : State) (told : Put) (end : State) (u : PutsUpTo region files handle at start told end)
    → AllPut region files handle at start (until_calls region files handle at start told end u) told end
until_shown region files handle at start told end u =
    subst (λ (fs : List NamedFile). AllPut region fs handle at start (until_calls region files handle at start told end u) told end) (sym u.split)
    (front_shown region u.before u.f u.behind handle at start u.writer u.place u.between (put_calls u.writer region u.place (small_file u.f) u.between told end u.last) told end u.no_more u.puts
    (put_shown u.writer region u.place (small_file u.f) u.between told end u.last))

all_shown : (region : ℕ) (files : List NamedFile) (handle : WriterHandle) (at : ℕ) (start : State) (told : Put) (end : State) (all : PutsAll region files handle at start told end)
    → AllPut region files handle at start (puts_calls region files handle at start told end all) told end
all_shown region files handle at start (put.Made last until) end each = each_shown region files handle at start last until end each
all_shown region files handle at start (put.Full last) end some = until_shown region files handle at start (put.Full last) end some
all_shown region files handle at start (put.Stopped why) end some = until_shown region files handle at start (put.Stopped why) end some

-- ---- the end of the writer

abbrev Told : Type 0
Told = Result Packed ScanStuck

abbrev closed_end : Packed → Result ℕ Trouble → Told
closed_end out (Ok landed) = Ok out
closed_end out (Err why) = Err (Stuck why)

abbrev CloseSo : Packed → Option WriterHandle → Result ℕ Trouble → Doing Told
CloseSo out handle (Err why) = Gives (Err (Stuck why))
CloseSo out None (Ok landed) = Gives (Err (Stuck Fault))
CloseSo out (Some handle) (Ok landed) = Then (MakesBy (close_program handle)) (λ (o : WriterOut). Gives (closed_end out o.result))

close_one_way : (out : Packed) (handle : Option WriterHandle) (result : Result ℕ Trouble) → GoesOneWay (CloseSo out handle result)
close_one_way out handle (Err why) = gives_one_way (Err (Stuck why))
close_one_way out None (Ok landed) = gives_one_way (Err (Stuck Fault))
close_one_way out (Some handle) (Ok landed) = then_one_way (MakesBy (close_program handle)) (λ (o : WriterOut). Gives (closed_end out o.result)) (makes_one_way (close_program handle)) (λ o. gives_one_way (closed_end out o.result))

abbrev SettleSo : Packed → WriterHandle → Doing Told
SettleSo out handle = Then (MakesBy (sync_program handle)) (λ (o : WriterOut). CloseSo out o.handle o.result)

settle_one_way : (out : Packed) (handle : WriterHandle) → GoesOneWay (SettleSo out handle)
settle_one_way out handle = then_one_way (MakesBy (sync_program handle)) (λ (o : WriterOut). CloseSo out o.handle o.result) (makes_one_way (sync_program handle)) (λ o. close_one_way out o.handle o.result)

-- what was settled so tells so
abbrev told_of : Packed → Result (Unit {0}) Trouble → Told
told_of out (Ok closed) = Ok out
told_of out (Err why) = Err (Stuck why)

told_closed : (out : Packed) (r : Result ℕ Trouble) → told_of out (closed_as r) ≡ closed_end out r
told_closed out (Ok landed) = refl
told_closed out (Err why) = refl

close_shown : (out : Packed) (handle : Option WriterHandle) (result : Result ℕ Trouble) (start : State) (told : Result (Unit {0}) Trouble) (end : State) (c : Closes handle result start told end)
    → CloseSo out handle result start (closing_calls handle result start told end c) (told_of out told) end
close_shown out handle (Err why) start told end (is, same) = (ap (told_of out) is, refl, same)
close_shown out None (Ok landed) start told end (is, same) = (ap (told_of out) is, refl, same)
close_shown out (Some handle) (Ok landed) start told end (o, makes, is) =
    then_gives (MakesBy (close_program handle)) (λ (o : WriterOut). closed_end out o.result) start makes.events o (told_of out told) end (makes, refl) (ap (told_of out) is ∙ told_closed out o.result)

settle_shown : (out : Packed) (handle : WriterHandle) (start : State) (told : Result (Unit {0}) Trouble) (end : State) (s : Settles handle start told end) → SettleSo out handle start (settling_calls handle start told end s) (told_of out told) end
settle_shown out handle start told end s =
    (s.synced, s.between, s.syncs.events, closing_calls s.synced.handle s.synced.result s.between told end s.closes, refl, (s.syncs, refl), close_shown out s.synced.handle s.synced.result s.between told end s.closes)

after_shown : (out : Packed) (handle : WriterHandle) (start : State) (told : Told) (end : State) (ends : EndsAfter handle out start told end) → SettleSo out handle start (ending_calls handle out start told end ends) told end
after_shown out handle start (Ok told) end (is, settles) = subst (λ (t : Told). SettleSo out handle start (settling_calls handle start (Ok tt) end settles) t end) (ap Ok (sym is)) (settle_shown out handle start (Ok tt) end settles)
after_shown out handle start (Err why) end (trouble, is, settles) =
    subst (λ (t : Told). SettleSo out handle start (settling_calls handle start (Err trouble) end settles) t end) (ap Err (sym is)) (settle_shown out handle start (Err trouble) end settles)

-- ---- from a place on

abbrev BehindPuts : Put → Doing Told
BehindPuts (put.Made handle next) = SettleSo (packed.All next) handle
BehindPuts (put.Full handle) = SettleSo packed.Full handle
BehindPuts (put.Stopped why) = Gives (Err (Stuck why))

behind_puts : (told : Put) → GoesOneWay (BehindPuts told)
behind_puts (put.Made handle next) = settle_one_way (packed.All next) handle
behind_puts (put.Full handle) = settle_one_way packed.Full handle
behind_puts (put.Stopped why) = gives_one_way (Err (Stuck why))

behind_shown : (told : Put) (start : State) (ended : Told) (end : State) (ends : EndsPuts told start ended end) → BehindPuts told start (behind_puts_calls told start ended end ends) ended end
behind_shown (put.Made handle next) start ended end ends = after_shown (packed.All next) handle start ended end ends
behind_shown (put.Full handle) start ended end ends = after_shown packed.Full handle start ended end ends
behind_shown (put.Stopped why) start ended end (is, same) = (is, refl, same)

module _ (region : ℕ) (files : List NamedFile) (at : ℕ) where
  abbrev BehindWriter : Result WriterHandle Trouble → Doing Told
  BehindWriter (Ok handle) = Then (AllPut region files handle at) BehindPuts
  BehindWriter (Err why) = Gives (Err (Stuck why))

  behind_writer : (opened : Result WriterHandle Trouble) → GoesOneWay (BehindWriter opened)
  behind_writer (Ok handle) = then_one_way (AllPut region files handle at) BehindPuts (all_put_one_way region files handle at) behind_puts
  behind_writer (Err why) = gives_one_way (Err (Stuck why))

  abbrev FromSo : Name → Doing Told
  FromSo name = Then (MakesBy (open_program name 0 64)) BehindWriter

  from_so : (name : Name) (start : State) (told : Told) (end : State) (p : PacksFrom name region files at start told end) → FromSo name start (from_place_calls name region files at start told end p) told end
  from_so name start told end (puts handle opened ended after makes all ends) =
      let front : List Event = puts_calls region files handle at opened ended after all in
      let back : List Event = behind_puts_calls ended after told end ends in
      (Ok handle, opened, makes.events, front ++ back, refl, (makes, refl), (ended, after, front, back, refl, all_shown region files handle at opened ended after all, behind_shown ended after told end ends))
  from_so name start told end (writer_stuck why makes is) = (Err why, end, makes.events, [], sym (append-nil makes.events), (makes, refl), (is, refl, refl))

  from_one_way : (name : Name) → GoesOneWay (DoneBy (PacksFrom name region files at) (from_place_calls name region files at))
  from_one_way name =
      as_one_way (PacksFrom name region files at) (from_place_calls name region files at) (FromSo name) (from_so name) (then_one_way (MakesBy (open_program name 0 64)) BehindWriter (makes_one_way (open_program name 0 64)) behind_writer)

-- ---- the whole

abbrev BehindBegin : Name → ℕ → List NamedFile → Begun → Doing Told
BehindBegin name region files (Ok at) = DoneBy (PacksFrom name region files at) (from_place_calls name region files at)
BehindBegin name region files (Err why) = Gives (Err why)

behind_begin : (name : Name) (region : ℕ) (files : List NamedFile) (begun : Begun) → GoesOneWay (BehindBegin name region files begun)
behind_begin name region files (Ok at) = from_one_way region files at name
behind_begin name region files (Err why) = gives_one_way (Err why)

abbrev PacksSo : Name → ℕ → List NamedFile → Doing Told
PacksSo name region files = Then (BeginsBy name region) (BehindBegin name region files)

packs_so : (name : Name) (region : ℕ) (files : List NamedFile) (start : State) (told : Told) (end : State) (p : Packs name region files start told end) → PacksSo name region files start (packing_calls name region files start told end p) told end
packs_so name region files start told end (goes_on at begun begins packs) =
    (Ok at, begun, beginning_calls name region start (Ok at) begun begins, from_place_calls name region files at begun told end packs, refl, (begins, refl), (packs, refl))
packs_so name region files start told end (begins_stuck why begins is) =
    (Err why, end, beginning_calls name region start (Err why) end begins, [], sym (append-nil (beginning_calls name region start (Err why) end begins)), (begins, refl), (is, refl, refl))

pub pack_one_way : (name : Name) (region : ℕ) (files : List NamedFile) → GoesOneWay (DoneBy (Packs name region files) (packing_calls name region files))
pack_one_way name region files =
    as_one_way (Packs name region files) (packing_calls name region files) (PacksSo name region files) (packs_so name region files) (then_one_way (BeginsBy name region) (BehindBegin name region files) (begins_one_way name region) (behind_begin name region files))
