-- What a machine that goes on has of each actor's writer: of the one whose writer changed, and of the others.
use Rattle.std.proofs.Common.{◌≡◌, ◌≢◌, ◌≤◌, ℕ, true, false, nat_eq, List, [], ◌∷◌, map, Option, Some, None, refl, sym, ap, ◌∙◌, inl, inr, subst, arith, if◌then◌else◌}
use Rattle.std.specs.Prelude.{is_some, set, slice_get}
use Rattle.std.specs.List.{AllByRecursion}
use Rattle.std.proofs.lemmas.Bool.{cases_eq}
use Rattle.std.proofs.lemmas.Bool.Decides.{nat_tests}
use Rattle.plain_file.proofs.Facts.{All-Among}
use Rattle.store_api.specs.declared.tree.Room.{Room}
use Rattle.store_laws.specs.Files.{file_at}
use Rattle.mount_model.specs.declared.row.Row.{Row}
use Rattle.mount_model.specs.declared.row.Stage.TheVariants as stage
use Rattle.mount_model.specs.History.{Event}
use Rattle.mount_model.specs.Paths.{open_path}
use Rattle.mount_model.specs.State.{last_id}
use Rattle.mount_model.specs.Table.{is_live, row_of}
use Rattle.mount_model.proofs.Facts.{at_only, row_of_id}
use Rattle.mount_sound.specs.Owed.{IsLawful}
use Rattle.mount_sound.proofs.Facts.{live_stage}
use Rattle.reader_laws.specs.Moments.{Dropping, IsNamed, Moment, file_in_room, file_then, file_told, moment_after, next_moment}
use Rattle.reader_laws.proofs.Gathered.Facts.{sound_after}
use Rattle.writer_flow.specs.declared.handle.WriterHandle.{WriterHandle}
use Rattle.plain_machine.specs.Machine.{Plain, PlainOwn, PlainRoom, PlainWriter}
use Rattle.plain_machine.specs.Becoming.{room_with}
use Rattle.plain_machine.specs.Finding.{owned_writer, writer_in, writer_of_room}
use Rattle.mount_model.specs.History.{AreBy}
use Rattle.plain_plays.specs.Mirrors.{Mirrors, MirrorsAt, MirrorsHandle, MirrorsRoom, MirrorsWriter, is_live_in, room_then}
use Rattle.plain_plays.specs.Plainly.{MirrorsOwn, dropping_of}
use Rattle.plain_plays.proofs.PlainSteps.Having.{has_stays}
use Rattle.plain_plays.proofs.PlainSteps.Steps.Leaving.{HasIt}
use Rattle.plain_plays.proofs.PlainSteps.Plainly.{has_it}
use Rattle.plain_plays.proofs.PlainSteps.Steps.Rooms.{in_place, set_here, set_there, writer_among}

equal : (x y : ℕ) → nat_eq x y ≡ true → x ≡ y
equal x y e = grind (arith, nat_tests)

-- ---- what the machine has

pub some_at : (m : Moment) (n : ℕ) (room : PlainRoom) (o : Option Room) → MirrorsAt m n o (Some room) → (r : Room) × (o ≡ Some r) × MirrorsRoom m n r room
some_at m n room None x = absurd x
some_at m n room (Some r) x = (r, refl, x)

pub its_room : (m : Moment) (p : Plain) (n : ℕ) (room : PlainRoom) → Mirrors m p → slice_get p.rooms n ≡ Some room → (r : Room) × (room_then m n ≡ Some r) × MirrorsRoom m n r room
its_room m p n room o there = some_at m n room (room_then m n) (subst (MirrorsAt m n (room_then m n)) there (o.rooms n))

pub its_writer : (m : Moment) (p : Plain) (n : ℕ) (room : PlainRoom) (id : ℕ) (w : PlainWriter) → Mirrors m p → slice_get p.rooms n ≡ Some room → writer_in id room.writers ≡ Some w → MirrorsWriter m n w
its_writer m p n room id w o there e = let r = its_room m p n room o there in All-Among (MirrorsWriter m n) room.writers w r.2.writers (writer_among id room.writers w e).0

pub own_found : (p : Plain) (own : PlainOwn) (w : PlainWriter) → owned_writer p own ≡ Some w → (room : PlainRoom) × (slice_get p.rooms own.room ≡ Some room) × (writer_in own.id room.writers ≡ Some w)
own_found p own w e = found (slice_get p.rooms own.room) refl e
  where
    found : (o : Option PlainRoom) → slice_get p.rooms own.room ≡ o → writer_of_room own.id o ≡ Some w → (room : PlainRoom) × (slice_get p.rooms own.room ≡ Some room) × (writer_in own.id room.writers ≡ Some w)
    found None is e = absurd (cc)
    found (Some room) is e = (room, is, e)

pub its_id : (p : Plain) (own : PlainOwn) (w : PlainWriter) → owned_writer p own ≡ Some w → w.id ≡ own.id
its_id p own w e = let f = own_found p own w e in (writer_among own.id f.0.writers w f.2).1

-- ---- a writer of an actor is one of the machine

module _ (me number : ℕ) (handle : WriterHandle) (v : PlainWriter) (x : Moment) (o : MirrorsOwn me number handle v x) where
  its_row : row_of v.id x.state.table.writers ≡ Some o.row
  its_row = o.opened.has.there

  row_id : o.row.id ≡ v.id
  row_id = row_of_id v.id x.state.table.writers o.row its_row

  is_live_row : is_live o.row.stage ≡ true
  is_live_row = let r = at_only stage.Open o.row.stage o.opened.is_open in live_stage o.row.stage (omega (arith, r))

  pub has_own : HasIt me (dropping_of number v) x.state
  has_own = record { row = o.row; has = o.opened.has; same = λ i. record { room = o.room i; host = o.host i; writer = row_id i } }

  entry_there : file_then x number (open_path v.host v.id) ≡ Some []
  unfolding has_own
  entry_there =
      let held : row_of o.row.id x.state.table.writers ≡ Some o.row = subst (λ w. row_of w x.state.table.writers ≡ Some o.row) (sym row_id) its_row in
      let p = o.sound.sound.placed o.row.id o.row held in
      let k = (o.sound.sound.rooms o.row.room p.0 p.1).kept o.row.id o.row held refl in
      let there : file_at p.0 (open_path o.row.host o.row.id) ≡ Some [] = (k.alive is_live_row).opened in
      let told : file_then x o.row.room (open_path o.row.host o.row.id) ≡ Some [] = ap (λ t. file_told t o.row.room (open_path o.row.host o.row.id)) o.sound.shape.told ∙ ap (λ r. file_in_room r (open_path o.row.host o.row.id)) p.1 ∙ there in
      subst (λ (d : Dropping). file_then x d.room (open_path d.host d.writer) ≡ Some []) has_own.same told

  pub opens_now : is_some (file_then x number (open_path v.host v.id)) ≡ true
  opens_now = ap is_some entry_there

  pub live_now : is_live_in number (row_of v.id x.state.table.writers) ≡ true
  live_now =
      let here : nat_eq o.row.room number ≡ true = let same : o.row.room ≡ number = o.room in grind (arith, nat_tests) in
      ap (is_live_in number) its_row ∙ rw is_live_row (rw here refl)

  pub own_writer : IsNamed (dropping_of number v) → v.id ≤ last_id x.state → v.is_open ≡ true → v.is_owned ≡ true → MirrorsWriter x number v
  own_writer named drawn open_is owned_is = record { named = named; drawn = drawn; issued = o.issued; landed_is = o.landed_is; opens = opens_now ∙ sym open_is; owned = live_now ∙ sym owned_is }

-- ---- others keep their writers

-- what others call leaves an actor's writer
pub own_stays : (events : List Event) (m : Moment) (me number : ℕ) (handle : WriterHandle) (w : PlainWriter) → IsLawful m.state events → AllByRecursion (λ (e : Event). e.caller ≢ me) events → MirrorsOwn me number handle w m → MirrorsOwn me number handle w (moment_after m events)
own_stays [] m me number handle w lawful others o = o
own_stays (e ∷ events) m me number handle w lawful others o =
    let d : Dropping = dropping_of number w in
    let h = has_stays me d o.row w.issued w.landed m e events o.sound lawful others.0 (has_it me number w handle m o) in
    own_stays events (next_moment m e) me number handle w lawful.2 others.1 (record {
      sound = sound_after m (e ∷ []) (lawful.0, lawful.1, tt) o.sound;
      row = o.row;
      opened = h.opened;
      room = o.room;
      host = o.host;
      floor = o.floor;
      capacity = o.capacity;
      counted = o.counted;
      issued = h.issued_is;
      landed_is = h.landed_is;
      writer = o.writer;
      pending = o.pending;
      cap_is = o.cap_is;
      fresh = o.fresh;
    })

pub by_another : (events : List Event) (me other : ℕ) → other ≢ me → AreBy me events → AllByRecursion (λ (e : Event). e.caller ≢ other) events
by_another [] me other apart by = tt
by_another (e ∷ events) me other apart by = (λ same. apart (sym same ∙ by.0), by_another events me other apart by.1)

-- two actors have two writers
pub two_writers : (m : Moment) (me other number n : ℕ) (handle h : WriterHandle) (w u : PlainWriter) → other ≢ me → MirrorsOwn me number handle w m → MirrorsOwn other n h u m → w.id ≡ u.id → ⊥
two_writers m me other number n handle h w u apart o q same =
    let both : Some o.row ≡ Some q.row = sym o.opened.has.there ∙ ap (λ k. row_of k m.state.table.writers) same ∙ q.opened.has.there in
    let one : o.row ≡ q.row = cc in
    apart (sym q.opened.has.owned ∙ sym (ap (λ (r : Row). r.owner) one) ∙ o.opened.has.owned)

-- ---- in the machine with one writer in the place of another

put_found : (v w : PlainWriter) (id : ℕ) (ws : List PlainWriter) → v.id ≡ id → writer_in id ws ≡ Some w → writer_in id (map (in_place v) ws) ≡ Some v
put_found v w id [] is e = absurd (cc)
put_found v w id (x ∷ ws) is e = elim (nat_eq x.id v.id) as (λ b. nat_eq x.id v.id ≡ b → (if nat_eq (if b then v else x).id id then Some (if b then v else x) else writer_in id (map (in_place v) ws)) ≡ Some v) [
  | true ↦ λ t. let here : nat_eq v.id id ≡ true = grind (arith, nat_tests) in rw here refl
  | false ↦ λ t.
      let away : nat_eq x.id id ≡ false = subst (λ k. nat_eq x.id k ≡ false) is t in
      rw away (put_found v w id ws is (subst (λ b. (if b then Some x else writer_in id ws) ≡ Some w) away e))
] refl

put_other : (v : PlainWriter) (id : ℕ) (ws : List PlainWriter) → (id ≡ v.id → ⊥) → writer_in id (map (in_place v) ws) ≡ writer_in id ws
put_other v id [] away = refl
put_other v id (x ∷ ws) away = elim (nat_eq x.id v.id) as (λ b. nat_eq x.id v.id ≡ b → (if nat_eq (if b then v else x).id id then Some (if b then v else x) else writer_in id (map (in_place v) ws)) ≡ (if nat_eq x.id id then Some x else writer_in id ws)) [
  | true ↦ λ t.
      let one : x.id ≡ v.id = equal x.id v.id t in
      let a : nat_eq v.id id ≡ false = let differ : v.id ≡ id → ⊥ = λ s. away (sym s) in grind (arith, nat_tests) in
      let b : nat_eq x.id id ≡ false = let differ : x.id ≡ id → ⊥ = λ s. away (sym s ∙ one) in grind (arith, nat_tests) in
      rw a (rw b (put_other v id ws away))
  | false ↦ λ t. elim (nat_eq x.id id) as (λ b. (if b then Some x else writer_in id (map (in_place v) ws)) ≡ (if b then Some x else writer_in id ws)) [ true ↦ refl | false ↦ put_other v id ws away ]
] refl

module _ (p q : Plain) (number : ℕ) (room : PlainRoom) (w v : PlainWriter) (there : slice_get p.rooms number ≡ Some room) (found : writer_in w.id room.writers ≡ Some w) (id : v.id ≡ w.id) (rooms : q.rooms ≡ set p.rooms number (room_with v room)) where
  put_here : slice_get q.rooms number ≡ Some (room_with v room)
  put_here = ap (λ (rs : List PlainRoom). slice_get rs number) rooms ∙ set_here p.rooms number room (room_with v room) there

  pub owned_put : (own : PlainOwn) → own.room ≡ number → own.id ≡ w.id → owned_writer q own ≡ Some v
  owned_put own here is = ap (λ n. writer_of_room own.id (slice_get q.rooms n)) here ∙ ap (writer_of_room own.id) put_here ∙ ap (λ k. writer_in k (map (in_place v) room.writers)) is ∙ put_found v w w.id room.writers id found

  pub owned_other : (own : PlainOwn) (u : PlainWriter) → (own.id ≡ w.id → ⊥) → owned_writer p own ≡ Some u → owned_writer q own ≡ Some u
  owned_other own u away e = elim (cases_eq own.room number) as (λ _. owned_writer q own ≡ Some u) [
    | inl here ↦
        ap (λ n. writer_of_room own.id (slice_get q.rooms n)) here ∙ ap (writer_of_room own.id) put_here ∙ put_other v own.id room.writers (λ same. away (same ∙ id)) ∙ sym (ap (writer_of_room own.id) there) ∙ sym (ap (λ n. writer_of_room own.id (slice_get p.rooms n)) here) ∙ e
    | inr other ↦ ap (λ (rs : List PlainRoom). writer_of_room own.id (slice_get rs own.room)) rooms ∙ ap (writer_of_room own.id) (set_there p.rooms number own.room (room_with v room) other) ∙ e
  ]

  -- another actor has its writer as before
  pub handle_other : (m : Moment) (events : List Event) (me other : ℕ) (handle : WriterHandle) (h : Option WriterHandle) (own : Option PlainOwn) → IsLawful m.state events → AreBy me events → other ≢ me → MirrorsOwn me number handle w m → MirrorsHandle m other p h own → MirrorsHandle (moment_after m events) other q h own
  handle_other m events me other handle None None lawful by apart o x = tt
  handle_other m events me other handle (Some h) None lawful by apart o x = absurd x
  handle_other m events me other handle None (Some own) lawful by apart o x = absurd x
  handle_other m events me other handle (Some h) (Some own) lawful by apart o x = (
    x.0,
    owned_other own x.0 (λ same. two_writers m me other number own.room handle h w x.0 apart o x.2 (sym (its_id p own x.0 x.1 ∙ same))) x.1,
    own_stays events m other own.room h x.0 lawful (by_another events me other apart by) x.2,
  )
