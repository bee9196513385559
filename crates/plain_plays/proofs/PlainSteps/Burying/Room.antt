-- A room of which the dead writers are taken off: the plain machine goes on with its room without them.
use Rattle.std.proofs.Common.{◌≡◌, ◌≤◌, ◌<◌, ◌&&◌, not, ℕ, Bool, true, false, nat_eq, List, [], ◌∷◌, map, filter, Option, Some, None, refl, sym, ap, ◌∙◌, inl, inr, subst, arith, if◌then◌else◌}
use Rattle.std.specs.Prelude.{is_some, slice_get}
use Rattle.std.specs.List.{AllByRecursion}
use Rattle.std.proofs.lemmas.Bool.{cases_eq}
use Rattle.std.proofs.lemmas.List.Elements.{All-from_recursion, recursion_from_All}
use Rattle.plfs_types.specs.declared.entries.Trunc.{Trunc}
use Rattle.plfs_types.specs.declared.names.Path.{Path}
use Rattle.plain_file.proofs.Facts.{All-Among, Among}
use Rattle.container_layout.specs.declared.items.Item.TheVariants as item
use Rattle.container_layout.specs.Items.{IsItem}
use Rattle.script_lang.specs.declared.line.Outcome.{Outcome}
use Rattle.script_lang.specs.declared.script.ActorDecl.{ActorDecl}
use Rattle.script_lang.specs.declared.script.Statement.{Statement}
use Rattle.store_api.specs.declared.tree.Room.{Room}
use Rattle.store_laws.specs.Files.{file_at}
use Rattle.mount_model.specs.Paths.{open_path}
use Rattle.mount_model.specs.State.{Table}
use Rattle.mount_model.specs.Table.{row_of}
use Rattle.mount_sound.specs.Ledger.{Ledger}
use Rattle.mount_model.specs.declared.names.OpenEntry.{OpenEntry}
use Rattle.reader_laws.specs.GatheringListing.{AreTruncsAt}
use Rattle.reader_laws.specs.Moments.{Dropping, HadTrunc, IsNamed, IsSoundAt, Moment, file_in_room, file_then}
use Rattle.reader_laws.proofs.Gathered.Facts.{All-weaker, any_found, found_any}
use Rattle.writer_flow.specs.declared.handle.WriterHandle.{WriterHandle}
use Rattle.plain_machine.specs.Machine.{Plain, PlainActor, PlainOwn, PlainRoom, PlainWriter}
use Rattle.plain_machine.specs.Becoming.{with_room}
use Rattle.plain_machine.specs.ByName.{dead, without_dead}
use Rattle.plain_machine.specs.Finding.{open_writers, owned_writer, writer_in, writer_of_room}
use Rattle.plain_machine.specs.Statements.{Takes}
use Rattle.plain_plays.specs.Mirrors.{HasTrace, IdsRise, Mirrors, MirrorsAt, MirrorsHandle, MirrorsRoom, MirrorsWriter, is_live_in, room_then}
use Rattle.plain_plays.specs.Plainly.{MirrorsOwn, dropping_of}
use Rattle.plain_plays.specs.Stepping.{HasActor, TakesStep}
use Rattle.plain_plays.proofs.PlainSteps.Steps.Making.{same_at}
use Rattle.plain_plays.proofs.PlainSteps.Steps.Owners.{its_writer, own_found}
use Rattle.plain_plays.proofs.PlainSteps.Steps.Rooms.{set_here, set_there}
use Rattle.plain_plays.proofs.PlainSteps.ByName.Entries.{entry_of, one_id}
use Rattle.plain_plays.proofs.PlainSteps.ByName.OpenWriters.{among_filter, of_filter}
use Rattle.plain_plays.proofs.PlainSteps.ByName.Turning.{by_room, had_before, had_now, last_later}
use Rattle.plain_plays.proofs.PlainSteps.Burying.Leaving.{Leaves}

-- a writer that is dead is open no more
abbrev pub off : PlainWriter → PlainWriter
off w = record w { is_open = w.is_open && w.is_owned }

entry_among : (ws : List PlainWriter) (w : PlainWriter) → Among w ws → Among (entry_of w) (map entry_of ws)
entry_among [] w a = a
entry_among (u ∷ ws) w (inl same) = inl (ap entry_of same)
entry_among (u ∷ ws) w (inr a) = inr (entry_among ws w a)

of_entry : (ws : List PlainWriter) (e : OpenEntry) → Among e (map entry_of ws) → (w : PlainWriter) × Among w ws × (e ≡ entry_of w)
of_entry [] e a = absurd a
of_entry (u ∷ ws) e (inl same) = (u, inl refl, same)
of_entry (u ∷ ws) e (inr a) = let r = of_entry ws e a in (r.0, inr r.1, r.2)

-- those that a filter keeps
pub among_kept : (p : PlainWriter → Bool) (ws : List PlainWriter) (w : PlainWriter) → Among w ws → p w ≡ true → Among w (filter p ws)
among_kept p [] w a is = absurd a
among_kept p (u ∷ ws) w (inl same) is = let here : p u ≡ true = ap p (sym same) ∙ is in rw here (inl same)
among_kept p (u ∷ ws) w (inr a) is = elim (p u) as (λ b. Among w (if b then u ∷ filter p ws else filter p ws)) [ true ↦ inr (among_kept p ws w a is) | false ↦ among_kept p ws w a is ]

of_kept : (p : PlainWriter → Bool) (ws : List PlainWriter) (w : PlainWriter) → Among w (filter p ws) → Among w ws × (p w ≡ true)
of_kept p [] w a = absurd a
of_kept p (u ∷ ws) w a = elim (p u) as (λ b. p u ≡ b → Among w (if b then u ∷ filter p ws else filter p ws) → Among w (u ∷ ws) × (p w ≡ true)) [
  | true ↦ λ t m. elim m as (λ _. Among w (u ∷ ws) × (p w ≡ true)) [
    | inl same ↦ (inl same, ap p same ∙ t)
    | inr more ↦ let r = of_kept p ws w more in (inr r.0, r.1)
  ]
  | false ↦ λ t m. let r = of_kept p ws w m in (inr r.0, r.1)
] refl a

not_owned : (b : Bool) → not b ≡ true → b ≡ false
not_owned true e = absurd (cc)
not_owned false e = refl

none_some : (o : Option (List ℕ)) → o ≡ None → is_some o ≡ false
none_some o e = ap is_some e

off_open : (a b : Bool) → a ≡ false → (a && b) ≡ false
off_open true b e = absurd (cc)
off_open false b e = refl

off_dead : (a b : Bool) → b ≡ false → (a && b) ≡ false
off_dead true b e = e
off_dead false b e = refl

off_owned : (a b : Bool) → b ≡ true → (a && b) ≡ a
off_owned true b e = e
off_owned false b e = refl

module _ (n : ℕ) (room : PlainRoom) (old : Room) (m last : Moment) (y : Leaves n (map entry_of (dead room)) old m last) (shows : MirrorsRoom m n old room) where
  its_items : (w : PlainWriter) → Among w room.writers → IsItem (item.OpenHost w.host w.id)
  its_items w a = let named = (All-Among (MirrorsWriter m n) room.writers w shows.writers a).named in record { in_range = tt; widths = named.widths }

  dead_is : (e : OpenEntry) → Among e (map entry_of (dead room)) → (w : PlainWriter) × Among w room.writers × (w.is_owned ≡ false) × (e ≡ entry_of w)
  dead_is e a =
      let w = of_entry (dead room) e a in
      let k = of_kept (λ (x : PlainWriter). not x.is_owned) (open_writers room) w.0 w.1 in
      (w.0, (of_filter room.writers w.0 k.0).0, not_owned w.0.is_owned k.1, w.2)

  then_file : (host writer : ℕ) → file_then last n (open_path host writer) ≡ file_at y.new (open_path host writer)
  then_file host writer = by_room last.state.store.tree n (open_path host writer) ∙ ap (λ o. file_in_room o (open_path host writer)) y.turns.now

  was_file : (host writer : ℕ) → file_then m n (open_path host writer) ≡ file_at old (open_path host writer)
  was_file host writer = by_room m.state.store.tree n (open_path host writer) ∙ ap (λ o. file_in_room o (open_path host writer)) y.turns.was

  -- whether it has the room open now
  opens_now : (w : PlainWriter) → Among w room.writers → MirrorsWriter m n w → is_some (file_then last n (open_path w.host w.id)) ≡ (off w).is_open
  opens_now w a o = by w.is_owned refl
    where
      kept_so : file_at y.new (open_path w.host w.id) ≡ file_at old (open_path w.host w.id) → is_some (file_then last n (open_path w.host w.id)) ≡ w.is_open
      kept_so same = ap is_some (then_file w.host w.id ∙ same ∙ sym (was_file w.host w.id)) ∙ o.opens

      by : (b : Bool) → w.is_owned ≡ b → is_some (file_then last n (open_path w.host w.id)) ≡ (off w).is_open
      by true is = elim (y.entries w.host w.id (its_items w a)) as (λ _. is_some (file_then last n (open_path w.host w.id)) ≡ (off w).is_open) [
        | inl same ↦ kept_so same ∙ sym (off_owned w.is_open w.is_owned is)
        | inr (none, among) ↦ absurd (let d = dead_is (entry_of w) among in let one : d.0 ≡ w = one_id room.writers d.0 w shows.rise d.1 a (ap (λ (x : OpenEntry). x.writer) (sym d.3)) in let clash : true ≡ false = sym is ∙ ap (λ (x : PlainWriter). x.is_owned) (sym one) ∙ d.2 in cc)
      ]
      by false is = elim w.is_open as (λ b. w.is_open ≡ b → is_some (file_then last n (open_path w.host w.id)) ≡ (off w).is_open) [
        | true ↦ λ opens.
            let at : Among w (dead room) = among_kept (λ (x : PlainWriter). not x.is_owned) (open_writers room) w (among_filter room.writers w a opens) (ap not is) in
            none_some (file_then last n (open_path w.host w.id)) (then_file w.host w.id ∙ y.taken (entry_of w) (its_items w a) (entry_among (dead room) w at)) ∙ sym (off_dead w.is_open w.is_owned is)
        | false ↦ λ shut. elim (y.entries w.host w.id (its_items w a)) as (λ _. is_some (file_then last n (open_path w.host w.id)) ≡ (off w).is_open) [
          | inl same ↦ kept_so same ∙ shut ∙ sym (off_dead w.is_open w.is_owned is)
          | inr (none, among) ↦ none_some (file_then last n (open_path w.host w.id)) (then_file w.host w.id ∙ none) ∙ sym (off_dead w.is_open w.is_owned is)
        ]
      ] refl

  writer_off : (w : PlainWriter) → Among w room.writers → MirrorsWriter m n w → MirrorsWriter last n (off w)
  writer_off w a o = record {
    named = o.named;
    drawn = let k = last_later n old y.new m last y.turns in omega (arith, o.drawn, k);
    issued = ap (λ (l : Ledger). l n w.id) y.turns.issued ∙ o.issued;
    landed_is = y.landed_is (dropping_of n w) o.named ∙ o.landed_is;
    opens = opens_now w a o;
    owned = ap (λ (t : Table). is_live_in n (row_of w.id t.writers)) y.table ∙ o.owned;
  }

  writers_off : (ws : List PlainWriter) → ((w : PlainWriter) → Among w ws → Among w room.writers) → AllByRecursion (MirrorsWriter m n) ws → AllByRecursion (MirrorsWriter last n) (map off ws)
  writers_off [] within all = tt
  writers_off (w ∷ ws) within all = (writer_off w (within w (inl refl)) all.0, writers_off ws (λ u a. within u (inr a)) all.1)

  above_off : (k : ℕ) (ws : List PlainWriter) → AllByRecursion (λ (u : PlainWriter). k < u.id) ws → AllByRecursion (λ (u : PlainWriter). k < u.id) (map off ws)
  above_off k [] all = tt
  above_off k (u ∷ ws) all = (all.0, above_off k ws all.1)

  rise_off : (ws : List PlainWriter) → IdsRise ws → IdsRise (map off ws)
  rise_off [] rise = tt
  rise_off (w ∷ ws) rise = (above_off w.id ws rise.0, rise_off ws rise.1)

  among_off : (ws : List PlainWriter) (w : PlainWriter) → Among w ws → Among (off w) (map off ws)
  among_off [] w a = a
  among_off (u ∷ ws) w (inl same) = inl (ap off same)
  among_off (u ∷ ws) w (inr a) = inr (among_off ws w a)

  -- who left a trace has left one before
  trace_was : (d : Dropping) → IsNamed d → d.room ≡ n → HasTrace last d → HasTrace m d
  trace_was d named here (inl some) = inl (subst (λ k. 1 ≤ k) (y.landed_is d named) some)
  trace_was d named here (inr had) = inr (record {
    is_item = had.is_item;
    bytes = had.bytes;
    there = subst (λ k. file_then m k (open_path d.host d.writer) ≡ Some had.bytes) (sym here) (was (subst (λ k. file_then last k (open_path d.host d.writer) ≡ Some had.bytes) here had.there));
  })
    where
      was : file_then last n (open_path d.host d.writer) ≡ Some had.bytes → file_then m n (open_path d.host d.writer) ≡ Some had.bytes
      was there = elim (y.entries d.host d.writer had.is_item) as (λ _. file_then m n (open_path d.host d.writer) ≡ Some had.bytes) [
        | inl same ↦ was_file d.host d.writer ∙ sym same ∙ sym (then_file d.host d.writer) ∙ there
        | inr (none, among) ↦ absurd (let clash : Some had.bytes ≡ None = sym there ∙ then_file d.host d.writer ∙ none in cc)
      ]

  truncs_then : AreTruncsAt m n room.truncs → AreTruncsAt last n room.truncs
  truncs_then are = record {
    rise = are.rise;
    there = All-from_recursion (λ (x : Trunc). HadTrunc last n x.stamp x.size) room.truncs (All-weaker (λ (x : Trunc). HadTrunc m n x.stamp x.size) (λ (x : Trunc). HadTrunc last n x.stamp x.size) room.truncs (λ x h. had_now n old y.new m last y.turns (item.Trunc x.stamp x.size) (y.truncs x.stamp x.size) h) (recursion_from_All (λ (x : Trunc). HadTrunc m n x.stamp x.size) room.truncs are.there));
    all = λ x h. are.all x (had_before n old y.new m last y.turns (item.Trunc x.stamp x.size) (y.truncs x.stamp x.size) h);
  }

  -- The machine's room is without them.
  pub room_off : (n ≡ m.state.marks → ⊥) → MirrorsRoom last n y.new (without_dead room)
  room_off apart = record {
    name = y.name ∙ shows.name;
    held = λ other. y.opens ∙ shows.held apart;
    truncs = truncs_then shows.truncs;
    writers = writers_off room.writers (λ w a. a) shows.writers;
    rise = rise_off room.writers shows.rise;
    all = λ d named here trace.
        let f = any_found (λ (w : PlainWriter). dropping_of n w ≡ d) room.writers (shows.all d named here (trace_was d named here trace)) in
        found_any (λ (w : PlainWriter). dropping_of n w ≡ d) (map off room.writers) (off f.0) (among_off room.writers f.0 f.1) f.2;
  }

  -- ---- the machine

  own_then : (me number : ℕ) (handle : WriterHandle) (w : PlainWriter) → IsSoundAt last → IsNamed (dropping_of number w) → MirrorsOwn me number handle w m → MirrorsOwn me number handle w last
  own_then me number handle w sound named o = record {
    sound = sound;
    row = o.row;
    opened = record { has = record { there = ap (λ (t : Table). row_of w.id t.writers) y.table ∙ o.opened.has.there; owned = o.opened.has.owned }; is_open = o.opened.is_open };
    room = o.room;
    host = o.host;
    floor = o.floor;
    capacity = o.capacity;
    counted = o.counted;
    issued = ap (λ (l : Ledger). l number w.id) y.turns.issued ∙ o.issued;
    landed_is = y.landed_is (dropping_of number w) named ∙ o.landed_is;
    writer = o.writer;
    pending = o.pending;
    cap_is = o.cap_is;
    fresh = o.fresh;
  }

  found_off : (id : ℕ) (ws : List PlainWriter) (w : PlainWriter) → writer_in id ws ≡ Some w → writer_in id (map off ws) ≡ Some (off w)
  found_off id [] w e = absurd (cc)
  found_off id (u ∷ ws) w e = elim (nat_eq u.id id) as (λ b. (if b then Some u else writer_in id ws) ≡ Some w → (if b then Some (off u) else writer_in id (map off ws)) ≡ Some (off w)) [
    | true ↦ λ f. let same : u ≡ w = cc in ap (λ x. Some (off x)) same
    | false ↦ λ f. found_off id ws w f
  ] e

  module _ (p : Plain) (there : slice_get p.rooms n ≡ Some room) (sound : IsSoundAt last) (apart : n ≡ m.state.marks → ⊥) (o : Mirrors m p) where
    abbrev pub Without : Plain
    Without = with_room n (without_dead room) p

    here : slice_get Without.rooms n ≡ Some (without_dead room)
    here = set_here p.rooms n room (without_dead room) there

    elsewhere_same : (j : ℕ) → (j ≡ n → ⊥) → slice_get Without.rooms j ≡ slice_get p.rooms j
    elsewhere_same j other = set_there p.rooms n j (without_dead room) other

    file_elsewhere : (j : ℕ) → (j ≡ n → ⊥) → (path : Path) → file_then last j path ≡ file_then m j path
    file_elsewhere j other path = by_room last.state.store.tree j path ∙ ap (λ r. file_in_room r path) (y.turns.others j other) ∙ sym (by_room m.state.store.tree j path)

    machine_off : Mirrors last Without
    machine_off = record {
      sound = sound;
      rooms = λ j. elim (cases_eq j n) as (λ _. MirrorsAt last j (room_then last j) (slice_get Without.rooms j)) [
        | inl same ↦ subst (λ i. MirrorsAt last i (room_then last i) (slice_get Without.rooms i)) (sym same) (subst (λ x. MirrorsAt last n x (slice_get Without.rooms n)) (sym y.turns.now) (subst (MirrorsAt last n (Some y.new)) (sym here) (room_off apart)))
        | inr other ↦
            let was : MirrorsAt last j (room_then m j) (slice_get p.rooms j) = same_at m last y.turns.issued y.turns.writers y.turns.marks (last_later n old y.new m last y.turns) j (file_elsewhere j other) (room_then m j) (slice_get p.rooms j) (o.rooms j) in
            subst (λ x. MirrorsAt last j x (slice_get Without.rooms j)) (sym (y.turns.others j other)) (subst (MirrorsAt last j (room_then m j)) (sym (elsewhere_same j other)) was)
      ];
      times = y.times ∙ o.times;
      mark = y.turns.mount ∙ o.mark;
      serial = y.serial ∙ o.serial;
      none_hold = ap (λ (t : Table). t.holders) y.table ∙ o.none_hold;
    }

    owned_off : (own : PlainOwn) (w : PlainWriter) → own.room ≡ n → owned_writer p own ≡ Some w → owned_writer Without own ≡ Some (off w)
    owned_off own w at e =
        let was : writer_in own.id room.writers ≡ Some w = sym (ap (writer_of_room own.id) there) ∙ sym (ap (λ j. writer_of_room own.id (slice_get p.rooms j)) at) ∙ e in
        ap (λ j. writer_of_room own.id (slice_get Without.rooms j)) at ∙ ap (writer_of_room own.id) here ∙ found_off own.id room.writers w was

    owned_there : (own : PlainOwn) (w : PlainWriter) → (own.room ≡ n → ⊥) → owned_writer p own ≡ Some w → owned_writer Without own ≡ Some w
    owned_there own w other e = ap (writer_of_room own.id) (elsewhere_same own.room other) ∙ e

    handle_off : (who : ℕ) (h : Option WriterHandle) (own : Option PlainOwn) → MirrorsHandle m who p h own → MirrorsHandle last who Without h own
    handle_off who None None x = tt
    handle_off who (Some h) None x = absurd x
    handle_off who None (Some own) x = absurd x
    handle_off who (Some h) (Some own) x =
        let f = own_found p own x.0 x.1 in
        let named : IsNamed (dropping_of own.room x.0) = (its_writer m p own.room f.0 own.id x.0 o f.1 f.2).named in
        let now : MirrorsOwn who own.room h x.0 last = own_then who own.room h x.0 sound named x.2 in
        elim (cases_eq own.room n) as (λ _. MirrorsHandle last who Without (Some h) (Some own)) [
          | inl at ↦ (off x.0, owned_off own x.0 at x.1, off_own who own.room h x.0 now)
          | inr other ↦ (x.0, owned_there own x.0 other x.1, now)
        ]
      where
        off_own : (me number : ℕ) (handle : WriterHandle) (w : PlainWriter) → MirrorsOwn me number handle w last → MirrorsOwn me number handle (off w) last
        off_own me number handle w q = record {
          sound = q.sound;
          row = q.row;
          opened = record { has = record { there = q.opened.has.there; owned = q.opened.has.owned }; is_open = q.opened.is_open };
          room = q.room;
          host = q.host;
          floor = q.floor;
          capacity = q.capacity;
          counted = q.counted;
          issued = q.issued;
          landed_is = q.landed_is;
          writer = q.writer;
          pending = q.pending;
          cap_is = q.cap_is;
          fresh = q.fresh;
        }

    -- The statement has this outcome, and the room is without them.
    pub off_takes : (me : ℕ) (declared : ActorDecl) (actor : PlainActor) (statement : Statement) (outcome : Outcome) (handle : Option WriterHandle) → HasActor m me p handle actor → Takes me declared actor p statement outcome Without → TakesStep m me declared actor p statement outcome last handle
    off_takes me declared actor statement outcome handle has takes = record {
      new = Without;
      takes = takes;
      mirrors = machine_off;
      left = actor;
      its_actor = record { there = has.there; its_own = handle_off me handle actor.writer has.its_own };
      reader = refl;
      others = λ other away. refl;
      handles = λ other h own away x. handle_off other h own x;
    }
