-- An actor whose room is there enters it as a plain machine's does, where nobody else calls.
use Rattle.std.proofs.Common.{◌≡◌, ◌≢◌, ◌≤◌, ◌<◌, ◌+◌, ◌-◌, ◌*◌, ◌^◌, ℕ, Bool, true, false, not, nat_eq, List, [], ◌∷◌, ◌++◌, Option, Some, None, Result, Ok, Err, refl, sym, ap, ◌∙◌, inl, inr, subst, arith, if◌then◌else◌}
use Rattle.std.specs.Prelude.{set, slice_get}
use Rattle.std.specs.List.{AllByRecursion}
use Rattle.std.proofs.lemmas.Bool.{cases_eq}
use Rattle.std.proofs.lemmas.Bool.Decides.{nat_tests}
use Rattle.script_lang.specs.declared.line.Outcome.{Outcome}
use Rattle.script_lang.specs.declared.line.Outcome.TheVariants.{Opened}
use Rattle.script_lang.specs.declared.script.ActorDecl.{ActorDecl}
use Rattle.store_api.specs.declared.step.Answer.TheVariants as answer
use Rattle.store_api.specs.declared.store.Trouble.TheVariants as trouble
use Rattle.store_api.specs.declared.tree.Room.{Room as RoomThere}
use Rattle.store_api.specs.Room.{has_folder}
use Rattle.store_laws.proofs.Facts.{acts_told, create_told}
use Rattle.store_laws.specs.There.{LacksFolder}
use Rattle.mount_model.specs.declared.call.Ask.{Ask}
use Rattle.mount_model.specs.declared.call.Call.TheVariants.{Enter, Floor}
use Rattle.mount_model.specs.declared.reply.Refusal.{Refusal}
use Rattle.mount_model.specs.declared.reply.Refusal.TheVariants as refusal
use Rattle.mount_model.specs.declared.reply.Reply.TheVariants.{Entered, Floored, Refused as RefusedFor}
use Rattle.mount_model.specs.declared.row.Row.{Row}
use Rattle.mount_model.specs.declared.row.Stage.TheVariants as stage
use Rattle.mount_model.specs.Entering.{EntersAs, draw_check, enter_outcome, enter_step, entered as entered_row, next_id}
use Rattle.mount_model.specs.Flooring.{floored}
use Rattle.mount_model.specs.History.{Event}
use Rattle.mount_model.specs.Making.{Refuses, Told}
use Rattle.mount_model.specs.Paths.{open_path}
use Rattle.container_layout.specs.Paths.{openhosts}
use Rattle.mount_model.specs.State.{State, Table, last_id}
use Rattle.mount_model.specs.Step.{Answers}
use Rattle.mount_model.specs.Table.{at_stage, only, row_of}
use Rattle.mount_model.proofs.Facts.{match_cases, row_of_id}
use Rattle.mount_sound.specs.Issued.{issued_after}
use Rattle.mount_sound.specs.Owed.{IsLawful}
use Rattle.mount_sound.proofs.Facts.{all_fit}
use Rattle.mount_model.specs.declared.stuck.Stuck.{Stuck}
use Rattle.mount_model.specs.declared.stuck.Stuck.TheVariants as stuck
use Rattle.mount_model.specs.Running.{Runs}
use Rattle.reader_laws.specs.GatheringListing.{AreTruncsAt}
use Rattle.reader_laws.specs.Moments.{Dropping, IsNamed, IsSoundAt, Moment, moment_after, next_moment}
use Rattle.reader_laws.proofs.Gathered.Facts.{All-weaker, sound_after}
use Rattle.outcomes.specs.Outcomes.{open_outcome}
use Rattle.refusal_laws.specs.Reasons.{IsChecked}
use Rattle.writer_flow.specs.declared.handle.WriterHandle.{WriterHandle}
use Rattle.writer_flow.specs.Handle.{opened_of}
use Rattle.writer_flow.specs.Opening.{enters, finds_floor, if_entered, if_floored}
use Rattle.writer_laws.specs.Knowing.{HasRow}
use Rattle.plain_machine.specs.Machine.{Plain, PlainActor, PlainOwn, PlainRoom, PlainWriter}
use Rattle.plain_machine.specs.Becoming.{drawn, is_spent, next_of, with_actor, with_room}
use Rattle.plain_machine.specs.Finding.{owned_writer, writer_in, writer_of_room}
use Rattle.plain_machine.specs.Landed.{last_trunc_of}
use Rattle.plain_machine.specs.Writers.{Enters, entered, entering}
use Rattle.mount_model.specs.History.{AreBy}
use Rattle.plain_plays.specs.Mirrors.{Mirrors, MirrorsAt, MirrorsHandle, MirrorsRoom, MirrorsWriter, room_then, room_told}
use Rattle.plain_plays.specs.Opens.{IsSpent, WasShut}
use Rattle.plain_plays.specs.Plainly.{MirrorsOwn, dropping_of, new_writer}
use Rattle.plain_plays.specs.Served.{GoesWell, HasOpen}
use Rattle.plain_plays.specs.Stepping.{HasActor, handle_in}
use Rattle.plain_plays.proofs.PlainSteps.Steps.Alone.{First, HasFailed, IsSyncing, asked_unless, first_call, opening_unless}
use Rattle.plain_plays.proofs.PlainSteps.Doing.{not_none}
use Rattle.plain_plays.proofs.PlainSteps.Entering.{IsContainerAt, enter_does, has_room, its_room, never_drawn, not_marks, only_spent}
use Rattle.plain_plays.proofs.PlainSteps.Steps.Floors.{floor_call}
use Rattle.plain_plays.proofs.PlainSteps.Steps.Keeping.{unless, when}
use Rattle.plain_plays.proofs.PlainSteps.Steps.Leaving.{HasIt, LeavesOthers, last_later, leaves_both, leaves_next, leaves_run, times_run}
use Rattle.plain_plays.proofs.PlainSteps.Steps.Making.{machine_same}
use Rattle.plain_plays.proofs.PlainSteps.Opening.{hostdir_ends, is_new}
use Rattle.plain_plays.proofs.PlainSteps.Steps.Others.{IsItsCall, its}
use Rattle.plain_plays.proofs.PlainSteps.Steps.Owners.{by_another, own_found, own_stays, own_writer}
use Rattle.plain_plays.proofs.PlainSteps.Reaching.{ended, over_alone}
use Rattle.plain_plays.proofs.PlainSteps.Steps.Rooms.{machine_push, set_here, set_there, truncs_on}

-- ---- what was told of an entering

enter_told : (row : Row) (table : Table) (told : Told) (w : ℕ) → Entered w ≡ (enter_outcome row table told).reply → told ≡ Ok answer.Made
enter_told row table (Ok answer.Made) w e = refl
enter_told row table (Ok answer.NoRoom) w e = absurd (cc)
enter_told row table (Ok answer.NoFolder) w e = absurd (cc)
enter_told row table (Ok other) w e = absurd (cc)
enter_told row table (Err trouble.Fault) w e = absurd (cc)
enter_told row table (Err trouble.NoMemory) w e = absurd (cc)

held_told : (row : Row) (table : Table) (told : Told) → RefusedFor refusal.Held ≡ (enter_outcome row table told).reply → (told ≡ Ok answer.NoFolder) × ((enter_outcome row table told).table ≡ table)
held_told row table (Ok answer.Made) e = absurd (cc)
held_told row table (Ok answer.NoRoom) e = absurd (cc)
held_told row table (Ok answer.NoFolder) e = (refl, refl)
held_told row table (Ok other) e = absurd (cc)
held_told row table (Err trouble.Fault) e = absurd (cc)
held_told row table (Err trouble.NoMemory) e = absurd (cc)

-- ---- an actor's writer in a machine that has more rooms or writers

pub more_rooms : (p q : Plain) (own : PlainOwn) (w : PlainWriter) → ((k : ℕ) (room : PlainRoom) → slice_get p.rooms k ≡ Some room → slice_get q.rooms k ≡ Some room) → owned_writer p own ≡ Some w → owned_writer q own ≡ Some w
more_rooms p q own w more e = let f = own_found p own w e in ap (writer_of_room own.id) (more own.room f.0 f.1) ∙ f.2

more_writers : (id : ℕ) (ws : List PlainWriter) (v w : PlainWriter) → writer_in id ws ≡ Some w → writer_in id (ws ++ v ∷ []) ≡ Some w
more_writers id [] v w e = absurd (cc)
more_writers id (x ∷ ws) v w e = elim (nat_eq x.id id) as (λ b. (if b then Some x else writer_in id ws) ≡ Some w → (if b then Some x else writer_in id (ws ++ v ∷ [])) ≡ Some w) [ true ↦ λ f. f | false ↦ λ f. more_writers id ws v w f ] e

new_last : (id : ℕ) (ws : List PlainWriter) (v : PlainWriter) → v.id ≡ id → AllByRecursion (λ (y : PlainWriter). y.id < id) ws → writer_in id (ws ++ v ∷ []) ≡ Some v
new_last id [] v is below = let t : nat_eq v.id id ≡ true = grind (arith, nat_tests) in rw t refl
new_last id (x ∷ ws) v is below = let t : nat_eq x.id id ≡ false = let less = below.0 in let away : x.id ≡ id → ⊥ = λ s. omega (arith, less, s) in grind (arith, nat_tests) in rw t (new_last id ws v is below.1)

-- ---- the calls behind the room's making

-- The machine's actor enters the room, or is refused, in one step from this machine on.
pub record EntersSo (start : Moment) (me : ℕ) (declared : ActorDecl) (actor : PlainActor) (p : Plain) (number : ℕ) (room : PlainRoom) (outcome : Outcome) (last : Moment) (handle : Option WriterHandle) : Type 0 where
  pub new : Plain
  pub takes : Enters me declared actor p number room outcome new
  pub mirrors : Mirrors last new
  pub left : PlainActor
  pub its_actor : HasActor last me new handle left
  pub reader : left.reader ≡ actor.reader
  pub others : (other : ℕ) → other ≢ me → slice_get new.actors other ≡ slice_get p.actors other
  pub handles : (other : ℕ) (h : Option WriterHandle) (own : Option PlainOwn) → other ≢ me → MirrorsHandle start other p h own → MirrorsHandle last other new h own

module _ (m : Moment) (me : ℕ) (p : Plain) (actor : PlainActor) (declared : ActorDecl) (number : ℕ) (room : PlainRoom) (o : Mirrors m p) (actor_there : slice_get p.actors me ≡ Some actor) (none : actor.writer ≡ None) (there : slice_get p.rooms number ≡ Some room) (had : IsContainerAt number m) (events : List Event) (out : Result WriterHandle Stuck) (lawful : IsLawful m.state events) (well : GoesWell me events) (by : AreBy me events) (runs : Runs me (enters number declared.host declared.cap) events out) where
  abbrev Last : Moment
  Last = moment_after m events

  abbrev Said : Outcome
  Said = open_outcome out

  abbrev Does : Type 0
  Does = EntersSo m me declared actor p number room Said Last (handle_in out)

  -- others' writers, where the machine has what it had of them
  others_keep : (q : Plain) → ((own : PlainOwn) (w : PlainWriter) → owned_writer p own ≡ Some w → owned_writer q own ≡ Some w) → (other : ℕ) (h : Option WriterHandle) (own : Option PlainOwn) → other ≢ me → MirrorsHandle m other p h own → MirrorsHandle Last other q h own
  others_keep q keeps other None None apart x = tt
  others_keep q keeps other (Some h) None apart x = absurd x
  others_keep q keeps other None (Some own) apart x = absurd x
  others_keep q keeps other (Some h) (Some own) apart x = (x.0, keeps own x.0 x.1, own_stays events m other own.room h x.0 lawful (by_another events me other apart by) x.2)

  -- it was refused, and only serials are drawn
  refused : (q : Plain) (because : Refusal) → out ≡ Err (stuck.Refused because) → Enters me declared actor p number room Said q → Mirrors Last q → q.rooms ≡ p.rooms → q.actors ≡ p.actors → Does
  refused q because is takes mirrors rooms actors = record {
    new = q;
    takes = takes;
    mirrors = mirrors;
    left = actor;
    its_actor = record {
      there = ap (λ (l : List PlainActor). slice_get l me) actors ∙ actor_there;
      its_own = subst (λ h. MirrorsHandle Last me q h actor.writer) (sym (ap handle_in is)) (subst (MirrorsHandle Last me q None) (sym none) tt);
    };
    reader = refl;
    others = λ other apart. ap (λ (l : List PlainActor). slice_get l other) actors;
    handles = others_keep q (λ own w e. ap (λ (rs : List PlainRoom). writer_of_room own.id (slice_get rs own.room)) rooms ∙ e);
  }

  abbrev Call1 : First m me (Enter number declared.host declared.cap) (if_entered declared.cap) events out
  Call1 = first_call m me (Enter number declared.host declared.cap) (if_entered declared.cap) events out o.sound lawful well by runs

  -- what a refusal leaves
  refused_ends : (because : Refusal) → Call1.event.reply ≡ RefusedFor because → (out ≡ Err (stuck.Refused because)) × (next_moment m Call1.event ≡ Last)
  refused_ends because told =
      let on = subst (λ x. Runs me (if_entered declared.cap x) Call1.rest out) told Call1.runs in (
        sym (ended me (Err (stuck.Refused because)) Call1.rest out on),
        ap (moment_after (next_moment m Call1.event)) (sym (over_alone me (Err (stuck.Refused because)) Call1.rest out Call1.by on)) ∙ Call1.ends,
      )

  ledger_same : (next_moment m Call1.event).issued ≡ m.issued
  ledger_same = ap (λ (a : Ask). issued_after m.issued m.state a.call Call1.event.reply) Call1.asked

  -- no serial was left
  spent : Call1.event.reply ≡ RefusedFor refusal.IdsSpent → Call1.event.after ≡ m.state → IsSpent m → Does
  spent told same is =
      let e = refused_ends refusal.IdsSpent told in
      let t : is_spent p ≡ true = let k : 2 ^ 32 - 1 ≤ p.serial = (let s = o.serial in omega (arith, is, s)) in grind (arith, nat_tests) in
      let mirrors : Mirrors (next_moment m Call1.event) p = machine_same m (next_moment m Call1.event) p p o Call1.sound (ap (λ (s : State). s.store.tree) same) ledger_same (ap (λ (s : State). s.table) same) (ap (λ (s : State). s.marks) same) (ap (λ (s : State). s.mount) same) (let k = ap (λ (s : State). s.serial) same in omega (arith, k)) refl (ap (λ (s : State). s.times) same ∙ o.times) refl (ap (λ (s : State). s.serial) same ∙ o.serial) in
      refused p refusal.IdsSpent e.0 (when (is_spent p) _ _ t (ap open_outcome e.0, refl)) (subst (λ x. Mirrors x p) e.1 mirrors) refl refl

  -- the room, as the tree has it
  abbrev R : RoomThere
  R = (its_room m o.sound number had).0

  in_room : MirrorsRoom m number R room
  in_room =
      let tree_there : room_then m number ≡ Some R = ap (λ t. room_told t number) o.sound.shape.told ∙ (its_room m o.sound number had).1 in
      subst (MirrorsAt m number (Some R)) there (subst (λ x. MirrorsAt m number x (slice_get p.rooms number)) tree_there (o.rooms number))

  its_held : has_folder R openhosts ≡ not room.is_held
  its_held = in_room.held (not_marks m o.sound number had)

  -- the container lets nobody in
  shut : Call1.event.reply ≡ RefusedFor refusal.Held → WasShut number m → Does
  shut told was =
      let e = refused_ends refusal.Held told in
      let a = subst (λ x. Answers m.state me (Enter number declared.host declared.cap) x Call1.event.after) told Call1.answers in
      elim (match_cases (draw_check m.state number) (EntersAs me number declared.host declared.cap m.state (RefusedFor refusal.Held) Call1.event.after) (λ because. Refuses because m.state (RefusedFor refusal.Held) Call1.event.after) a) as (λ _. Does) [
        | inr (because, check, refused_so) ↦ absurd (let s = only_spent m o.sound number had because check in let clash : RefusedFor refusal.Held ≡ RefusedFor refusal.IdsSpent = refused_so.0 ∙ ap RefusedFor s.0 in cc)
        | inl (free, x) ↦
            let row : Row = entered_row m.state me number declared.host declared.cap in
            let h = held_told row m.state.table x.makes.told x.makes.answered in
            let t = acts_told (enter_step m.state number declared.host) m.state.store Call1.event.after.store o.sound.shape.tree x.makes.told o.sound.shape.told x.makes.made in
            let stays = (create_told number (open_path declared.host (next_id m.state)) o.sound.shape.tree x.makes.told t.0 t.2).stays answer.NoFolder h.0 (λ clash. cc) in
            let lacks : has_folder R openhosts ≡ false = lacking (was o.sound.shape.tree o.sound.shape.told) in
            let held_is : room.is_held ≡ true = flipped room.is_held (sym its_held ∙ lacks) in
            let serial : Call1.event.after.serial ≡ m.state.serial + 1 = ap (λ (s : State). s.serial) x.makes.after in
            let mirrors : Mirrors (next_moment m Call1.event) (drawn p) = machine_same m (next_moment m Call1.event) p (drawn p) o Call1.sound (t.1 ∙ ap Some stays.0 ∙ sym o.sound.shape.told) ledger_same (ap (λ (s : State). s.table) x.makes.after ∙ h.1) (ap (λ (s : State). s.marks) x.makes.after) (ap (λ (s : State). s.mount) x.makes.after) (omega (arith, serial)) refl (ap (λ (s : State). s.times) x.makes.after ∙ o.times) refl (serial ∙ ap (λ k. k + 1) o.serial) in
            refused (drawn p) refusal.Held e.0 (unless (is_spent p) _ _ (unspent Call1.sound serial) (when room.is_held _ _ held_is (ap open_outcome e.0, refl))) (subst (λ y. Mirrors y (drawn p)) e.1 mirrors) refl refl
      ]
    where
      lacking : LacksFolder o.sound.shape.tree number openhosts → has_folder R openhosts ≡ false
      lacking l = let both : Some l.room ≡ Some R = sym l.has_room ∙ (its_room m o.sound number had).1 in let one : l.room ≡ R = cc in subst (λ r. has_folder r openhosts ≡ false) one l.none

      flipped : (b : Bool) → not b ≡ false → b ≡ true
      flipped true e = refl
      flipped false e = absurd (cc)

      unspent : IsSoundAt (next_moment m Call1.event) → Call1.event.after.serial ≡ m.state.serial + 1 → is_spent p ≡ false
      unspent sound serial = let fits = sound.regular.serial_fits in let less : p.serial < 2 ^ 32 - 1 = (let s = o.serial in omega (arith, fits, serial, s)) in grind (arith, nat_tests)

  -- ---- it enters

  module _ (w : ℕ) (told : Call1.event.reply ≡ Entered w) where
    abbrev M2 : Moment
    M2 = next_moment m Call1.event

    abbrev NewRow : Row
    NewRow = entered_row m.state me number declared.host declared.cap

    abbrev D : Dropping
    D = its number declared.host w

    answers : Answers m.state me (Enter number declared.host declared.cap) (Entered w) Call1.event.after
    answers = subst (λ x. Answers m.state me (Enter number declared.host declared.cap) x Call1.event.after) told Call1.answers

    has_row : HasRow me w NewRow M2.state
    has_row = enter_does m o.sound me number declared.host declared.cap w Call1.event.after answers

    id : next_id m.state ≡ w
    id = row_of_id w M2.state.table.writers NewRow has_row.there

    as_so : EntersAs me number declared.host declared.cap m.state (Entered w) Call1.event.after
    as_so = elim (match_cases (draw_check m.state number) (EntersAs me number declared.host declared.cap m.state (Entered w) Call1.event.after) (λ because. Refuses because m.state (Entered w) Call1.event.after) answers) as (λ _. EntersAs me number declared.host declared.cap m.state (Entered w) Call1.event.after) [
      | inl (free, x) ↦ x
      | inr (because, check, refused_so) ↦ absurd (let other = refused_so.0 in cc)
    ]

    serial_is : M2.state.serial ≡ m.state.serial + 1
    serial_is = ap (λ (s : State). s.serial) as_so.makes.after

    times_are : M2.state.times ≡ m.state.times
    times_are = ap (λ (s : State). s.times) as_so.makes.after

    named : IsNamed D
    named = let fits = all_fit M2.state Call1.sound.regular w NewRow has_row.there in record { in_range = tt; widths = (fits.host, subst (λ k. k < 2 ^ 64) id fits.id) }

    -- the room isn't held
    open_folder : has_folder R openhosts ≡ true
    open_folder =
        let t = acts_told (enter_step m.state number declared.host) m.state.store Call1.event.after.store o.sound.shape.tree as_so.makes.told o.sound.shape.told as_so.makes.made in
        let c = (create_told number (open_path declared.host (next_id m.state)) o.sound.shape.tree as_so.makes.told t.0 t.2).done (enter_told NewRow m.state.table as_so.makes.told w as_so.makes.answered) in
        let both : Some c.room ≡ Some R = sym c.has_room ∙ (its_room m o.sound number had).1 in
        let one : c.room ≡ R = cc in
        subst (λ r. has_folder r openhosts ≡ true) one c.folder

    free_room : room.is_held ≡ false
    free_room = flipped room.is_held (sym its_held ∙ open_folder)
      where
        flipped : (b : Bool) → not b ≡ true → b ≡ false
        flipped true e = absurd (cc)
        flipped false e = refl

    unspent : is_spent p ≡ false
    unspent = let fits = Call1.sound.regular.serial_fits in let s = serial_is in let less : p.serial < 2 ^ 32 - 1 = (let k = o.serial in omega (arith, fits, s, k)) in grind (arith, nat_tests)

    undrawn : last_id m.state < w
    undrawn = let e = id in after_last m.state w e
      where
        after_last : (x : State) (k : ℕ) → next_id x ≡ k → last_id x < k
        after_last x k e = omega (arith, e)

    has_it : HasIt me D M2.state
    has_it = record { row = NewRow; has = has_row; same = λ i. its number declared.host (id i) }

    entering_leaves : LeavesOthers D m M2
    entering_leaves =
        leaves_next m Call1.event Call1.rest D o.sound Call1.whole (ap (λ (a : Ask). a.stop) Call1.asked) (subst (λ (a : Ask). IsItsCall (next_id m.state) D a.call) (sym Call1.asked) (λ i. its number declared.host (id i))) named
        (λ row held. absurd (let clash : Some row ≡ None = sym held ∙ ap (λ k. row_of k m.state.table.writers) (sym id) ∙ never_drawn m.state m.state.table.writers o.sound.regular.drawn in cc))
        (λ row held. let one : NewRow ≡ row = same_row row (sym has_row.there ∙ held) in subst (λ (r : Row). its r.room r.host r.id ≡ D) one (λ i. its number declared.host (id i)))
      where
        same_row : (row : Row) → Some NewRow ≡ Some row → NewRow ≡ row
        same_row row e = cc

    runs_on : Runs me (finds_floor w declared.cap) Call1.rest out
    runs_on = subst (λ x. Runs me (if_entered declared.cap x) Call1.rest out) told Call1.runs

    abbrev Call2 : First M2 me (Floor w) (if_floored w declared.cap) Call1.rest out
    Call2 = first_call M2 me (Floor w) (if_floored w declared.cap) Call1.rest out Call1.sound Call1.whole.2 Call1.well Call1.by runs_on

    abbrev Top : ℕ
    Top = last_trunc_of room.truncs

    end_sound : IsSoundAt Last
    end_sound = sound_after m events lawful o.sound

    -- the writer is open, above the greatest stamp of the room's truncates
    open_now : (floor : ℕ) → Call2.event.reply ≡ Floored floor → (out ≡ Ok (opened_of w declared.cap)) × MirrorsOwn me number (opened_of w declared.cap) (new_writer w declared.host declared.cap Top) Last
    open_now floor floor_told =
        let are : AreTruncsAt M2 number room.truncs = truncs_on m M2 D entering_leaves number room.truncs in_room.truncs in
        let has = floor_call M2 Call1.sound me w NewRow Call2.event.after floor room.truncs has_row refl are (subst (λ x. Answers M2.state me (Floor w) x Call2.event.after) floor_told Call2.answers) in
        let h = hostdir_ends me w declared.cap Call2.rest (next_moment M2 Call2.event) (floored Top NewRow) out refl Call2.sound Call2.whole.2 Call2.well has (subst (λ x. Runs me (if_floored w declared.cap x) Call2.rest out) floor_told Call2.runs) in
        let ends : moment_after (next_moment M2 Call2.event) Call2.rest ≡ Last = Call2.ends ∙ Call1.ends in
        (h.0, is_new me w number declared.host declared.cap Top m.state Last end_sound (subst (λ (x : Moment). HasOpen me w (at_stage stage.Open (floored Top NewRow)) x.state) ends h.1))

    opened : (out ≡ Ok (opened_of w declared.cap)) × MirrorsOwn me number (opened_of w declared.cap) (new_writer w declared.host declared.cap Top) Last → Does
    opened n =
        let good : HasFailed out → ⊥ = λ failed. subst HasFailed n.0 failed in
        let calls = asked_unless (IsSyncing w) HasFailed me Call1.rest (finds_floor w declared.cap) out (opening_unless w declared.cap) good Call1.by runs_on in
        let l = leaves_run Call1.rest M2 me D named Call1.sound Call1.whole.2 has_it (All-weaker _ _ Call1.rest (λ e x. (x.0, x.1.0, x.1.1)) calls) in
        let times = times_run Call1.rest M2 w Call1.whole.2 (All-weaker _ _ Call1.rest (λ e x. (x.0, x.1.0, x.1.2)) calls) in
        let all : LeavesOthers D m Last = subst (LeavesOthers D m) Call1.ends (leaves_both D m M2 (moment_after M2 Call1.rest) entering_leaves l.others) in
        let next_is : next_of p ≡ w = (λ i. (sym o.mark) i * 2 ^ 32 + ((sym o.serial) i + 1)) ∙ id in
        let v : PlainWriter = entering p declared room in
        let same : new_writer w declared.host declared.cap Top ≡ v = λ i. record { id = (sym next_is) i; host = declared.host; capacity = declared.cap; floor = Top; is_open = true; is_owned = true; issued = []; landed = 0 } in
        let mine : MirrorsOwn me number (opened_of w declared.cap) v Last = subst (λ x. MirrorsOwn me number (opened_of w declared.cap) x Last) same n.1 in
        let later = last_later D M2 (moment_after M2 Call1.rest) l.others in
        let within : w ≤ last_id Last.state = drawn_by M2.state Last.state entering_leaves.mount serial_is (ap (λ (x : Moment). x.state.mount) (sym Call1.ends) ∙ l.others.mount) (ap (λ (x : Moment). x.state.serial) (sym Call1.ends) ∙ l.serial) in
        let is_d : dropping_of number v ≡ D = λ i. its number declared.host (next_is i) in
        let now : MirrorsWriter Last number v = own_writer me number (opened_of w declared.cap) v Last mine (subst IsNamed (sym is_d) named) (subst (λ k. k ≤ last_id Last.state) (sym next_is) within) refl refl in
        let own : PlainOwn = record { room = number; id = next_of p } in
        let left_so : PlainActor = record actor { writer = Some own } in
        let q : Plain = with_actor me left_so (with_room number (entered v room) (drawn p)) in
        let here : slice_get q.rooms number ≡ Some (entered v room) = set_here p.rooms number room (entered v room) there in
        let below : AllByRecursion (λ (y : PlainWriter). y.id < next_of p) room.writers = All-weaker (MirrorsWriter m number) (λ (y : PlainWriter). y.id < next_of p) room.writers (λ y x. let k = x.drawn in let u = undrawn in omega (arith, k, u, next_is)) in_room.writers in
        let owned : owned_writer q own ≡ Some v = ap (writer_of_room (next_of p)) here ∙ new_last (next_of p) room.writers v refl below in
        record {
          new = q;
          takes = unless (is_spent p) _ _ unspent (unless room.is_held _ _ free_room (ap open_outcome n.0 ∙ ap Opened (sym next_is), refl));
          mirrors = machine_push m Last D all v is_d now undrawn p q room o there end_sound refl (ap (λ (x : Moment). x.state.times) (sym Call1.ends) ∙ times ∙ times_are ∙ o.times) refl (ap (λ (x : Moment). x.state.serial) (sym Call1.ends) ∙ l.serial ∙ serial_is ∙ ap (λ k. k + 1) o.serial);
          left = left_so;
          its_actor = record {
            there = set_here p.actors me actor left_so actor_there;
            its_own = subst (λ h. MirrorsHandle Last me q h (Some own)) (sym (ap handle_in n.0)) (v, owned, mine);
          };
          reader = refl;
          others = λ other apart. set_there p.actors me other left_so apart;
          handles = others_keep q (λ x u e. keeps v q refl x u e);
        }
      where
        drawn_by : (a b : State) → a.mount ≡ m.state.mount → a.serial ≡ m.state.serial + 1 → b.mount ≡ a.mount → b.serial ≡ a.serial → w ≤ last_id b
        drawn_by a b first serial mount same = let e = id in omega (arith, e, first, serial, mount, same)

        same_room : (r : PlainRoom) → Some r ≡ Some room → r ≡ room
        same_room r e = cc

        keeps : (v : PlainWriter) (q : Plain) → q.rooms ≡ set p.rooms number (entered v room) → (x : PlainOwn) (u : PlainWriter) → owned_writer p x ≡ Some u → owned_writer q x ≡ Some u
        keeps v q rooms x u e =
            let f = own_found p x u e in
            elim (cases_eq x.room number) as (λ _. owned_writer q x ≡ Some u) [
              | inl same ↦
                  let one : f.0 ≡ room = same_room f.0 (sym f.1 ∙ ap (λ k. slice_get p.rooms k) same ∙ there) in
                  ap (λ (rs : List PlainRoom). writer_of_room x.id (slice_get rs x.room)) rooms ∙ ap (λ k. writer_of_room x.id (slice_get (set p.rooms number (entered v room)) k)) same ∙ ap (writer_of_room x.id) (set_here p.rooms number room (entered v room) there) ∙ more_writers x.id room.writers v u (subst (λ (r : PlainRoom). writer_in x.id r.writers ≡ Some u) one f.2)
              | inr other ↦ ap (λ (rs : List PlainRoom). writer_of_room x.id (slice_get rs x.room)) rooms ∙ ap (writer_of_room x.id) (set_there p.rooms number x.room (entered v room) other) ∙ e
            ]

    enters_now : Does
    enters_now = elim Call2.served as (λ _. Does) [
      | inl (floor, floor_told) ↦ opened (open_now floor floor_told)
      | inr (because, floor_told, reason) ↦ not_none me w (only stage.Entered) NewRow M2.state because _ has_row refl reason
    ]

  pub enters_so : Does
  enters_so = elim Call1.served as (λ _. Does) [
    | inl (w, told) ↦ enters_now w told
    | inr (because, told, reason) ↦
        let a = subst (λ x. Answers m.state me (Enter number declared.host declared.cap) x Call1.event.after) told Call1.answers in
        elim reason as (λ _. Does) [
          | inl check ↦
              let s = only_spent m o.sound number had because check in
              spent (told ∙ ap RefusedFor s.0) (unchanged because check a) s.1
          | inr (inl lacks) ↦ absurd (has_room m o.sound number had (lacks.1 o.sound.shape.tree o.sound.shape.told))
          | inr (inr away) ↦ shut (told ∙ ap RefusedFor away.0) away.1
        ]
  ]
    where
      unchanged : (because : Refusal) → IsChecked (draw_check m.state number) because → Answers m.state me (Enter number declared.host declared.cap) (RefusedFor because) Call1.event.after → Call1.event.after ≡ m.state
      unchanged because check a = elim (match_cases (draw_check m.state number) (EntersAs me number declared.host declared.cap m.state (RefusedFor because) Call1.event.after) (λ y. Refuses y m.state (RefusedFor because) Call1.event.after) a) as (λ _. Call1.event.after ≡ m.state) [
        | inl (free, x) ↦ absurd (let clash : None ≡ Some because = sym free ∙ check in cc)
        | inr (y, some, refused_so) ↦ refused_so.1
      ]
