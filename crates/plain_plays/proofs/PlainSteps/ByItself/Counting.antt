-- What a migration counts are writers of the plain machine's room.
use Rattle.std.proofs.Common.{◌≡◌, ◌≢◌, ◌≤◌, ◌<◌, ◌+◌, ◌-◌, ◌/◌, ℕ, zero, suc, nat_lt, Bool, true, false, List, [], ◌∷◌, ◌++◌, length, take, Option, Some, None, Result, Ok, Err, refl, sym, ap, ◌∙◌, inl, subst, arith}
use Rattle.std.specs.Prelude.{◌==◌, if◌then◌else◌, slice_get}
use Rattle.std.specs.List.{AllByRecursion, Any}
use Rattle.std.proofs.lemmas.List.Elements.{All-contains, All-from_recursion}
use Rattle.plfs_types.specs.declared.limits.TheConstants.{MAX_PACKED}
use Rattle.container_layout.specs.declared.items.Item.TheVariants as item
use Rattle.container_layout.specs.Items.{IsItem}
use Rattle.container_layout.specs.Paths.{hostdir_of}
use Rattle.store_api.specs.declared.tree.Room.{Room as RoomThere}
use Rattle.mount_model.specs.declared.call.Ask.{Ask}
use Rattle.mount_model.specs.declared.call.Call.{Call}
use Rattle.mount_model.specs.declared.call.Call.TheVariants.{Find, Look}
use Rattle.mount_model.specs.declared.call.Look.TheVariants.{List as ListFolder}
use Rattle.mount_model.specs.declared.names.Metadata.{Metadata}
use Rattle.mount_model.specs.declared.reply.Reply.{Reply}
use Rattle.mount_model.specs.declared.reply.Reply.TheVariants.{Done}
use Rattle.mount_model.specs.declared.stuck.Stuck.{Stuck}
use Rattle.mount_model.specs.Entries.{next_read, reads_of}
use Rattle.mount_model.specs.FlowListed.{told_by}
use Rattle.mount_model.specs.FlowReplies.{Tries, bytes_in, given, names_in, on_ok}
use Rattle.mount_model.specs.History.{AreBy, Event, state_after}
use Rattle.mount_model.specs.Paths.{Name, index_path, metadata}
use Rattle.mount_model.specs.Program.{AsksOnly, Program, ask, done, followed_by}
use Rattle.mount_model.specs.Running.{Runs, unbroken}
use Rattle.mount_model.specs.State.{State}
use Rattle.mount_sound.specs.Ledger.{entries_in}
use Rattle.mount_sound.specs.Owed.{IsLawful, StandsInRoom}
use Rattle.mount_sound.specs.There.{landed_entries}
use Rattle.mount_sound.proofs.Facts.{entries_take}
use Rattle.reader_laws.specs.Moments.{Dropping, IsSoundAt, Moment, landed, landed_by, moment_after}
use Rattle.reader_laws.proofs.Gathered.Facts.{follows, landed_at, landed_is_first, legal_first, sound_after}
use Rattle.index_reader.specs.declared.scanning.Scan.{Scan}
use Rattle.index_reader.specs.Opening.{no_flat, scans}
use Rattle.index_reader.specs.Replies.{number_in}
use Rattle.index_reader.specs.Scanning.{nothing_found, scanned}
use Rattle.index_reader.specs.Tops.{top_shows}
use Rattle.migrate_core.specs.declared.migrated.Migrated.{Migrated}
use Rattle.migrate_core.specs.Chosen.{chosen, metas_named}
use Rattle.migrate_core.specs.Counting.{noted, nothing}
use Rattle.migrate_core.specs.Entries.{checked, no_entries}
use Rattle.migrate_core.specs.Longest.{packing, run_count}
use Rattle.migrate_core.specs.Migrating.{migrate_at_program, migrates, migrates_listed, migrates_shown}
use Rattle.migrate_core.specs.Words.{Fate, Packed, Tail, is_packed}
use Rattle.migrate_core.specs.Writers.{counts_of, flat_in, if_done, installs, or_damage, puts, reads, starts, syncs, writer_program}
use Rattle.migrate_laws.specs.Closed.{AreOnce, HasClosed, IsTooLong, WriterOf}
use Rattle.migrate_laws.specs.Migrated.{HasMigrated, IsLeftOut}
use Rattle.migrate_laws.specs.Moments.{Calls}
use Rattle.migrate_laws.specs.Packed.{AreApart, Counts, HasPack, HavePacks, PackOf, entries_of, runs_of}
use Rattle.plain_machine.specs.Machine.{PlainRoom, PlainWriter}
use Rattle.plain_machine.specs.Landed.{landed_of}
use Rattle.plain_plays.specs.ByItself.{AreSingle, TellsPacked, landed_in_all, runs_in_all}
use Rattle.plain_plays.specs.Mirrors.{MirrorsRoom, MirrorsWriter}
use Rattle.plain_plays.specs.Plainly.{dropping_of}
use Rattle.plain_plays.proofs.PlainSteps.Steps.Alone.{asked_only}

-- ---- a migration finds one room

-- it finds no room by its name
abbrev IsNoFind : Call → Type 0
IsNoFind (Find name) = ⊥
IsNoFind call = Unit {0}

abbrev FindsNone : {R : Type 0} → Program Call Reply R → Type 0
FindsNone p = AsksOnly IsNoFind p

given_finds : {A R : Type 0} (o : Option A) (why : Stuck) (next : A → Tries R) → ((a : A) → FindsNone (next a)) → FindsNone (given o why next)
given_finds None why next goes = tt
given_finds (Some a) why next goes = goes a

ok_finds : {A R : Type 0} (next : A → Tries R) → ((a : A) → FindsNone (next a)) → (result : Result A Stuck) → FindsNone (on_ok next result)
ok_finds next goes (Ok a) = goes a
ok_finds next goes (Err why) = tt

then_finds : {R S : Type 0} (p : Program Call Reply R) (next : R → Program Call Reply S) → FindsNone p → ((r : R) → FindsNone (next r)) → FindsNone (followed_by p next)
then_finds (done r) next one goes = goes r
then_finds (ask q k) next one goes = (one.0, λ reply. then_finds (k reply) next (one.1 reply) goes)

either_finds : {R : Type 0} (b : Bool) (p q : Program Call Reply R) → FindsNone p → FindsNone q → FindsNone (if b then p else q)
either_finds true p q one other = one
either_finds false p q one other = other

done_finds : (next : Tries Fate) → FindsNone next → (reply : Reply) → FindsNone (if_done next reply)
done_finds next one Done = one
done_finds next one reply = tt

scans_find : (n : ℕ) (ks : List ℕ) (scan : Scan) → FindsNone (scans n 0 no_flat ks scan)
scans_find n [] scan = tt
scans_find n (k ∷ ks) scan = (tt, λ reply. given_finds (names_in reply) _ _ (λ names. ok_finds (λ more. scans n 0 no_flat ks more) (λ more. scans_find n ks more) (scanned (hostdir_of k) names scan)))

module _ (n : ℕ) (m : Metadata) where
  puts_find : (bytes : List ℕ) (q : Packed) (flat : ℕ) → FindsNone (puts bytes q flat)
  puts_find bytes q flat = (tt, done_finds (syncs flat q) (tt, done_finds (installs flat q) (tt, done_finds (done (Ok (is_packed q))) tt)))

  starts_find : (bytes : List ℕ) (q : Packed) → FindsNone (starts n m bytes q)
  starts_find bytes q = (tt, λ reply. given_finds (flat_in reply) _ _ (puts_find bytes q))

  damage_finds : (next : Tail → Tries Fate) → ((tail : Tail) → FindsNone (next tail)) → (found : Result Tail ℕ) → FindsNone (or_damage (index_path m.host m.writer) next found)
  damage_finds next goes (Ok tail) = goes tail
  damage_finds next goes (Err place) = tt

  reads_find : (k left : ℕ) (tail : Tail) → FindsNone (reads k n m left tail)
  reads_find zero left tail = starts_find (packing tail.entries) (counts_of tail.entries)
  reads_find (suc k) left tail = (tt, λ reply. given_finds (bytes_in reply) _ _ (λ bytes. damage_finds (λ more. reads k n m (left - next_read left) more) (λ more. reads_find k (left - next_read left) more) (checked (next_read left) bytes tail)))

  writer_finds : FindsNone (writer_program n m)
  writer_finds = (tt, λ reply. given_finds (number_in reply) _ _ (λ told. either_finds (nat_lt MAX_PACKED (told / 40)) _ _ tt (either_finds ((told / 40) == 0) _ _ tt (reads_find (reads_of (told / 40)) (told / 40) (no_entries m.writer)))))

migrates_find : (n : ℕ) (metas : List Metadata) (sofar : Migrated) → FindsNone (migrates n metas sofar)
migrates_find n [] sofar = tt
migrates_find n (m ∷ metas) sofar = then_finds (writer_program n m) (on_ok (λ fate. migrates n metas (noted fate sofar))) (writer_finds n m) (ok_finds (λ fate. migrates n metas (noted fate sofar)) (λ fate. migrates_find n metas (noted fate sofar)))

at_finds : (n : ℕ) → FindsNone (migrate_at_program n)
at_finds n = (
  tt,
  λ reply. given_finds (names_in reply) _ _
      (λ names. ok_finds (migrates_shown n)
      (λ ks. (
        tt,
        λ told. ok_finds (λ metas. followed_by (scans n 0 no_flat ks nothing_found) (on_ok (migrates_listed n metas)))
            (λ metas. then_finds (scans n 0 no_flat ks nothing_found) (on_ok (migrates_listed n metas)) (scans_find n ks nothing_found) (ok_finds (migrates_listed n metas) (λ listing. migrates_find n (chosen listing.droppings metas) nothing))) (told_by metadata (λ all. metas_named all []) told),
      ))
      (top_shows names)),
)

-- no call behind the first one finds a room
pub first_find : (me n : ℕ) (events before after : List Event) (event : Event) (out : Result Migrated Stuck) → AreBy me events → Runs me (migrate_at_program n) events out → events ≡ before ++ event ∷ after → (name : Name) → event.ask ≡ unbroken (Find name) → ⊥
first_find me n events before after event out by runs split name asks =
    let all = asked_only IsNoFind me events (migrate_at_program n) out (at_finds n) by runs in
    let (none, rest) = behind before (subst (λ es. AllByRecursion (λ (e : Event). (e.ask.stop ≡ None) × IsNoFind e.ask.call) es) split all) in
    subst (λ (a : Ask). IsNoFind a.call) asks none.1
  where
    behind : (es : List Event) → AllByRecursion (λ (e : Event). (e.ask.stop ≡ None) × IsNoFind e.ask.call) (es ++ event ∷ after) → ((event.ask.stop ≡ None) × IsNoFind event.ask.call) × AllByRecursion (λ (e : Event). (e.ask.stop ≡ None) × IsNoFind e.ask.call) after
    behind [] are = are
    behind (e ∷ es) are = behind es are.1

-- ---- writers of the machine's room

module _ (m : Moment) (s : IsSoundAt m) (n : ℕ) (r : RoomThere) (there : slice_get s.shape.tree.rooms n ≡ Some r) (room : PlainRoom) (o : MirrorsRoom m n r room) where
  -- The machine has the writer, with the entries that have landed there.
  record IsFoundAs (host writer : ℕ) : Type 0 where
    w : PlainWriter
    among : Any (λ (x : PlainWriter). x ≡ w) room.writers
    id : w.id ≡ writer
    entries : landed_entries r host writer ≡ entries_in (landed_of w)
    count : length (landed_entries r host writer) ≡ w.landed

  found_as : (host writer : ℕ) → IsItem (item.Index host writer) → 1 ≤ length (landed_entries r host writer) → IsFoundAs host writer
  found_as host writer named some =
      let d : Dropping = record { room = n; host = host; writer = writer } in
      let here : landed_by m d ≡ landed_entries r host writer = landed_at m s d r there in
      let long : landed m d ≡ length (landed_entries r host writer) = ap length here in
      let a = o.all d named refl (inl (omega (arith, long, some))) in
      let w : PlainWriter = a.1 in
      let is : dropping_of n w ≡ d = a.4 in
      let x : MirrorsWriter m n w = All-contains (MirrorsWriter m n) room.writers w (All-from_recursion (MirrorsWriter m n) room.writers o.writers) (a.0, a.2, a.3) in
      let first : landed_by m (dropping_of n w) ≡ entries_in (landed_of w) = landed_is_first m s (dropping_of n w) x.named ∙ (λ i. take (x.landed_is i) (entries_in (x.issued i))) ∙ sym (entries_take w.landed w.issued) in
      record {
        w = w;
        among = (a.0, a.1, a.2, a.3, refl);
        id = ap (λ (z : Dropping). z.writer) is;
        entries = sym here ∙ ap (landed_by m) (sym is) ∙ first;
        count = sym long ∙ ap (landed m) (sym is) ∙ x.landed_is;
      }

  -- ---- those that were packed

  packed_as : (q : PackOf) → HasPack q r → IsFoundAs q.host q.writer
  packed_as q h = found_as q.host q.writer (record { in_range = tt; widths = h.stands.is_item.widths }) h.right.packs.valid.counted.0

  abbrev packed_of : (qs : List PackOf) → AllByRecursion (λ (q : PackOf). HasPack q r) qs → List PlainWriter
  packed_of [] have = []
  packed_of (q ∷ qs) have = (packed_as q have.0).w ∷ packed_of qs have.1

  packed_among : (qs : List PackOf) (have : AllByRecursion (λ (q : PackOf). HasPack q r) qs) → AllByRecursion (λ (w : PlainWriter). Any (λ (x : PlainWriter). x ≡ w) room.writers) (packed_of qs have)
  packed_among [] have = tt
  packed_among (q ∷ qs) have = ((packed_as q have.0).among, packed_among qs have.1)

  packed_others : (writer : ℕ) (qs : List PackOf) (have : AllByRecursion (λ (q : PackOf). HasPack q r) qs) → AllByRecursion (λ (q : PackOf). q.writer ≢ writer) qs → AllByRecursion (λ (w : PlainWriter). w.id ≢ writer) (packed_of qs have)
  packed_others writer [] have apart = tt
  packed_others writer (q ∷ qs) have apart = ((λ same. apart.0 (sym (packed_as q have.0).id ∙ same)), packed_others writer qs have.1 apart.1)

  packed_once : (qs : List PackOf) (have : AllByRecursion (λ (q : PackOf). HasPack q r) qs) → AreApart qs → AreSingle (packed_of qs have)
  packed_once [] have apart = tt
  packed_once (q ∷ qs) have apart = (subst (λ k. AllByRecursion (λ (w : PlainWriter). w.id ≢ k) (packed_of qs have.1)) (sym (packed_as q have.0).id) (packed_others q.writer qs have.1 apart.0), packed_once qs have.1 apart.1)

  packed_short : (qs : List PackOf) (have : AllByRecursion (λ (q : PackOf). HasPack q r) qs) → AllByRecursion (λ (w : PlainWriter). (1 ≤ w.landed) × (w.landed ≤ MAX_PACKED)) (packed_of qs have)
  packed_short [] have = tt
  packed_short (q ∷ qs) have =
      let f = packed_as q have.0 in
      let count = f.count in
      let some = have.0.right.packs.valid.counted in
      ((subst (λ k. 1 ≤ k) count some.0, subst (λ k. k ≤ MAX_PACKED) count some.1), packed_short qs have.1)

  packed_many : (qs : List PackOf) (have : AllByRecursion (λ (q : PackOf). HasPack q r) qs) → length qs ≡ length (packed_of qs have)
  packed_many [] have = refl
  packed_many (q ∷ qs) have = ap suc (packed_many qs have.1)

  packed_entries : (qs : List PackOf) (have : AllByRecursion (λ (q : PackOf). HasPack q r) qs) → entries_of qs ≡ landed_in_all (packed_of qs have)
  packed_entries [] have = refl
  packed_entries (q ∷ qs) have = let one : q.entries ≡ (packed_as q have.0).w.landed = sym have.0.all ∙ (packed_as q have.0).count in (λ i. one i + packed_entries qs have.1 i)

  packed_runs : (qs : List PackOf) (have : AllByRecursion (λ (q : PackOf). HasPack q r) qs) → runs_of qs ≡ runs_in_all (packed_of qs have)
  packed_runs [] have = refl
  packed_runs (q ∷ qs) have = let one : q.runs ≡ run_count (entries_in (landed_of (packed_as q have.0).w)) = sym have.0.longest ∙ ap run_count (packed_as q have.0).entries in (λ i. one i + packed_runs qs have.1 i)

  -- ---- those that were left

  -- its name is one of a writer, and too many of its entries have landed
  abbrev IsLeftHere : WriterOf → Type 0
  IsLeftHere v = IsItem (item.Index v.host v.writer) × IsTooLong v r

  left_as : (v : WriterOf) → IsLeftHere v → IsFoundAs v.host v.writer
  left_as v h = found_as v.host v.writer h.0 (let long = h.1 in omega (arith, long))

  abbrev left_of : (vs : List WriterOf) → AllByRecursion IsLeftHere vs → List PlainWriter
  left_of [] have = []
  left_of (v ∷ vs) have = (left_as v have.0).w ∷ left_of vs have.1

  left_among : (vs : List WriterOf) (have : AllByRecursion IsLeftHere vs) → AllByRecursion (λ (w : PlainWriter). Any (λ (x : PlainWriter). x ≡ w) room.writers) (left_of vs have)
  left_among [] have = tt
  left_among (v ∷ vs) have = ((left_as v have.0).among, left_among vs have.1)

  left_others : (writer : ℕ) (vs : List WriterOf) (have : AllByRecursion IsLeftHere vs) → AllByRecursion (λ (v : WriterOf). v.writer ≢ writer) vs → AllByRecursion (λ (w : PlainWriter). w.id ≢ writer) (left_of vs have)
  left_others writer [] have apart = tt
  left_others writer (v ∷ vs) have apart = ((λ same. apart.0 (sym (left_as v have.0).id ∙ same)), left_others writer vs have.1 apart.1)

  left_once : (vs : List WriterOf) (have : AllByRecursion IsLeftHere vs) → AreOnce vs → AreSingle (left_of vs have)
  left_once [] have apart = tt
  left_once (v ∷ vs) have apart = (subst (λ k. AllByRecursion (λ (w : PlainWriter). w.id ≢ k) (left_of vs have.1)) (sym (left_as v have.0).id) (left_others v.writer vs have.1 apart.0), left_once vs have.1 apart.1)

  left_long : (vs : List WriterOf) (have : AllByRecursion IsLeftHere vs) → AllByRecursion (λ (w : PlainWriter). MAX_PACKED < w.landed) (left_of vs have)
  left_long [] have = tt
  left_long (v ∷ vs) have = (subst (λ k. MAX_PACKED < k) (left_as v have.0).count have.0.1, left_long vs have.1)

  left_many : (vs : List WriterOf) (have : AllByRecursion IsLeftHere vs) → length vs ≡ length (left_of vs have)
  left_many [] have = refl
  left_many (v ∷ vs) have = ap suc (left_many vs have.1)

  -- ---- what is counted

  -- in the room that the store tells
  here_so : (holds : RoomThere → Type 0) → StandsInRoom m.state n holds → holds r
  here_so holds stands =
      let (other, at, h) = stands s.shape.tree s.shape.told in
      let both : Some other ≡ Some r = sym at ∙ there in
      let same : other ≡ r = cc in
      subst holds same h

  packs_here : (qs : List PackOf) → AllByRecursion (λ (q : PackOf). StandsInRoom m.state n (HasPack q)) qs → AllByRecursion (λ (q : PackOf). HasPack q r) qs
  packs_here [] have = tt
  packs_here (q ∷ qs) have = (here_so (HasPack q) have.0, packs_here qs have.1)

  counted_so : (told : Migrated) (qs : List PackOf) (vs : List WriterOf) → Counts told qs → AreApart qs → AllByRecursion (λ (q : PackOf). StandsInRoom m.state n (HasPack q)) qs → AllByRecursion IsLeftHere vs → AreOnce vs → told.left ≡ length vs → TellsPacked room told
  counted_so told qs vs c apart packs left once many =
      let have = packs_here qs packs in
      record {
        packed = packed_of qs have;
        are = record { there = packed_among qs have; once = packed_once qs have apart };
        short = packed_short qs have;
        writers = c.writers ∙ packed_many qs have;
        entries = c.entries ∙ packed_entries qs have;
        runs = c.runs ∙ packed_runs qs have;
        left = left_of vs left;
        are_too = record { there = left_among vs left; once = left_once vs left once };
        long = left_long vs left;
        left_counted = many ∙ left_many vs left;
      }

-- ---- what the migration shows

module _ (me : ℕ) (start : Moment) (sound : IsSoundAt start) (name : Name) (events : List Event) (told : Migrated) (lawful : IsLawful start.state events) (h : HasMigrated me name start.state events told) where
  abbrev Last : Moment
  Last = moment_after start events

  last_is : Last.state ≡ state_after start.state events
  last_is = (follows start events).0

  -- the metadata were listed at a sound moment
  listed_named : (vs : List WriterOf) → AllByRecursion (IsLeftOut h.number h.packed.listed (state_after start.state events)) vs → AllByRecursion (λ (v : WriterOf). IsItem (item.Index v.host v.writer) × StandsInRoom Last.state h.number (IsTooLong v)) vs
  listed_named vs left = named vs left
    where
      l : Calls me (Look h.number (ListFolder metadata)) start.state events h.packed.listed
      l = h.packed.lists

      at : Moment
      at = moment_after start l.before

      at_sound : IsSoundAt at
      at_sound = sound_after start l.before (legal_first start l.before (l.event ∷ l.after) (subst (IsLawful start.state) l.split lawful)) sound

      tells : h.packed.listed.store.tree ≡ Some at_sound.shape.tree
      tells = ap (λ (z : State). z.store.tree) (sym ((follows start l.before).0 ∙ l.comes)) ∙ at_sound.shape.told

      one : (v : WriterOf) → StandsInRoom h.packed.listed h.number (HasClosed v) → IsItem (item.Index v.host v.writer)
      one v stands = let closed = (stands at_sound.shape.tree tells).2 in record { in_range = tt; widths = closed.stands.is_item.widths }

      named : (zs : List WriterOf) → AllByRecursion (IsLeftOut h.number h.packed.listed (state_after start.state events)) zs → AllByRecursion (λ (v : WriterOf). IsItem (item.Index v.host v.writer) × StandsInRoom Last.state h.number (IsTooLong v)) zs
      named [] z = tt
      named (v ∷ zs) z = ((one v z.0.0, subst (λ (x : State). StandsInRoom x h.number (IsTooLong v)) (sym last_is) z.0.1), named zs z.1)

  -- What it counts are writers of the machine's room.
  pub counts_writers : (n : ℕ) → h.number ≡ n → (s : IsSoundAt Last) (r : RoomThere) → slice_get s.shape.tree.rooms n ≡ Some r → (room : PlainRoom) → MirrorsRoom Last n r room → TellsPacked room told
  counts_writers n here s r there room o =
      let p = h.packed in
      let packs : AllByRecursion (λ (q : PackOf). StandsInRoom Last.state n (HasPack q)) p.packs = subst (λ k. AllByRecursion (λ (q : PackOf). StandsInRoom Last.state k (HasPack q)) p.packs) here (subst (λ (x : State). HavePacks h.number p.packs x) (sym last_is) p.have) in
      let left : AllByRecursion (λ (v : WriterOf). IsItem (item.Index v.host v.writer) × StandsInRoom Last.state n (IsTooLong v)) p.left = subst (λ k. AllByRecursion (λ (v : WriterOf). IsItem (item.Index v.host v.writer) × StandsInRoom Last.state k (IsTooLong v)) p.left) here (listed_named p.left p.exactly.all) in
      counted_so Last s n r there room o told p.packs p.left p.counts p.apart packs (all_here p.left left) p.exactly.once p.left_counted
    where
      all_here : (vs : List WriterOf) → AllByRecursion (λ (v : WriterOf). IsItem (item.Index v.host v.writer) × StandsInRoom Last.state n (IsTooLong v)) vs → AllByRecursion (IsLeftHere Last s n r there room o) vs
      all_here [] z = tt
      all_here (v ∷ vs) z = ((z.0.0, here_so Last s n r there room o (IsTooLong v) z.0.1), all_here vs z.1)
