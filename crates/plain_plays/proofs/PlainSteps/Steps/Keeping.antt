-- A sync and a write of an actor's writer are steps of a plain machine, where nobody else calls.
use Rattle.std.proofs.Common.{◌≡◌, ◌≤◌, ◌+◌, ◌-◌, ℕ, Bool, true, false, ◌||◌, nat_eq, nat_le, nat_lt, List, length, Option, Some, None, refl, sym, ap, ◌∙◌, subst, arith, if◌then◌else◌}
use Rattle.std.specs.Prelude.{MatchOption, set, slice_get}
use Rattle.std.proofs.lemmas.Bool.Decides.{nat_tests}
use Rattle.plfs_types.specs.declared.limits.TheConstants.{MAX_LOG, MAX_SIZE, MAX_STAMP}
use Rattle.plfs_types.specs.Stamps.{next_stamp}
use Rattle.edge_io.specs.Clock.{Ticks}
use Rattle.script_lang.specs.declared.line.Outcome.{Outcome}
use Rattle.script_lang.specs.declared.line.Outcome.TheVariants.{Refused, Synced, Wrote}
use Rattle.script_lang.specs.declared.script.ActorDecl.{ActorDecl}
use Rattle.script_lang.specs.declared.script.Data.{Data}
use Rattle.script_lang.specs.declared.script.Statement.{Statement}
use Rattle.script_lang.specs.declared.script.Statement.TheVariants.{Sync, Write as WriteData}
use Rattle.mount_model.specs.declared.reply.Refusal.{Refusal}
use Rattle.mount_model.specs.declared.reply.Refusal.TheVariants as refusal
use Rattle.mount_model.specs.History.{Event}
use Rattle.mount_sound.specs.Entries.{logged}
use Rattle.mount_sound.specs.Ledger.{entries_in}
use Rattle.mount_sound.specs.Owed.{IsLawful}
use Rattle.mount_model.specs.Running.{Runs}
use Rattle.reader_laws.specs.Moments.{Dropping, IsNamed, Moment, moment_after}
use Rattle.reader_laws.proofs.Gathered.Facts.{All-weaker, sound_after}
use Rattle.outcomes.specs.Data.{bytes_of}
use Rattle.outcomes.specs.Outcomes.{sync_outcome, write_outcome}
use Rattle.writer_flow.specs.declared.handle.WriterHandle.{WriterHandle}
use Rattle.writer_flow.specs.declared.handle.WriterOut.{WriterOut}
use Rattle.writer_flow.specs.Syncing.{sync_program}
use Rattle.writer_flow.specs.Writing.{write_program}
use Rattle.plain_machine.specs.Machine.{Plain, PlainActor, PlainOwn, PlainRoom, PlainWriter}
use Rattle.plain_machine.specs.Becoming.{all_landed, made_room, room_with, with_room}
use Rattle.plain_machine.specs.Cases.{IsRefused, OnOwn, When}
use Rattle.plain_machine.specs.Finding.{owned_writer, writer_in}
use Rattle.plain_machine.specs.Landed.{last_of}
use Rattle.plain_machine.specs.Statements.{Takes}
use Rattle.plain_machine.specs.Writers.{WritesNow, issue, one_more}
use Rattle.script_lang.specs.declared.line.Why.TheVariants.{NotOpen}
use Rattle.mount_model.specs.History.{AreBy}
use Rattle.plain_plays.specs.Mirrors.{Mirrors, MirrorsHandle, MirrorsWriter}
use Rattle.plain_plays.specs.Plainly.{MirrorsOwn, RefusesOne, WritesOne, dropping_of}
use Rattle.plain_plays.specs.Served.{GoesWell}
use Rattle.plain_plays.specs.Stepping.{HasActor, TakesStep}
use Rattle.plain_plays.proofs.PlainSteps.Steps.Alone.{IsInside, IsSyncing, asked_only, sync_asks, write_asks}
use Rattle.plain_plays.proofs.PlainSteps.Steps.Leaving.{AreItsCalls, LeavesRun, last_later, leaves_run, times_run}
use Rattle.plain_plays.proofs.PlainSteps.Steps.Owners.{handle_other, has_own, its_id, its_writer, live_now, opens_now, own_found, own_writer, owned_put}
use Rattle.plain_plays.proofs.PlainSteps.Plainly.{syncs_plainly}
use Rattle.plain_plays.proofs.PlainSteps.WritingPlainly.{writes_plainly}
use Rattle.plain_plays.proofs.PlainSteps.Steps.Rooms.{machine_put}

-- what is done with the actor's writer
pub on_own : (actor : PlainActor) (own : PlainOwn) (p : Plain) (outcome : Outcome) (new : Plain) (does : PlainOwn → PlainRoom → PlainWriter → Type 0) (room : PlainRoom) (w : PlainWriter) → actor.writer ≡ Some own → slice_get p.rooms own.room ≡ Some room → owned_writer p own ≡ Some w → does own room w → OnOwn actor p outcome new does
on_own actor own p outcome new does room w e there owned done = subst (λ o. MatchOption o (IsRefused outcome NotOpen p new) (λ (x : PlainOwn). (r : PlainRoom) × (y : PlainWriter) × (slice_get p.rooms x.room ≡ Some r) × (owned_writer p x ≡ Some y) × does x r y)) (sym e) (room, w, there, owned, done)

-- an actor without one is refused
pub no_own : (actor : PlainActor) (p : Plain) (does : PlainOwn → PlainRoom → PlainWriter → Type 0) → actor.writer ≡ None → OnOwn actor p (Refused NotOpen) p does
no_own actor p does e = subst (λ o. MatchOption o (IsRefused (Refused NotOpen) NotOpen p p) (λ (x : PlainOwn). (r : PlainRoom) × (y : PlainWriter) × (slice_get p.rooms x.room ≡ Some r) × (owned_writer p x ≡ Some y) × does x r y)) (sym e) (refl, refl)

-- The actor's writer, with its room, and what the mount has of it.
pub record Own (m : Moment) (me : ℕ) (p : Plain) (handle : WriterHandle) (actor : PlainActor) : Type 0 where
  pub own : PlainOwn
  pub is : actor.writer ≡ Some own
  pub w : PlainWriter
  pub owned : owned_writer p own ≡ Some w
  pub mirrors : MirrorsOwn me own.room handle w m
  pub room : PlainRoom
  pub there : slice_get p.rooms own.room ≡ Some room
  pub found : writer_in w.id room.writers ≡ Some w
  pub id : w.id ≡ own.id

pub its_own : (m : Moment) (me : ℕ) (p : Plain) (handle : WriterHandle) (actor : PlainActor) → HasActor m me p (Some handle) actor → Own m me p handle actor
its_own m me p handle actor has = found actor.writer refl has.its_own
  where
    found : (o : Option PlainOwn) → actor.writer ≡ o → MirrorsHandle m me p (Some handle) o → Own m me p handle actor
    found None e x = absurd x
    found (Some own) e x =
        let f = own_found p own x.0 x.1 in
        let id : x.0.id ≡ own.id = its_id p own x.0 x.1 in
        record { own = own; is = e; w = x.0; owned = x.1; mirrors = x.2; room = f.0; there = f.1; found = subst (λ k. writer_in k f.0.writers ≡ Some x.0) (sym id) f.2; id = id }

module _ (m : Moment) (me : ℕ) (p : Plain) (handle : WriterHandle) (actor : PlainActor) (o : Mirrors m p) (has : HasActor m me p (Some handle) actor) where
  abbrev Mine : Own m me p handle actor
  Mine = its_own m me p handle actor has

  abbrev D : Dropping
  D = dropping_of Mine.own.room Mine.w

  pub mine_mirrors : MirrorsWriter m Mine.own.room Mine.w
  mine_mirrors = its_writer m p Mine.own.room Mine.room Mine.w.id Mine.w o Mine.there Mine.found

  is_open : Mine.w.is_open ≡ true
  is_open = sym mine_mirrors.opens ∙ opens_now me Mine.own.room handle Mine.w m Mine.mirrors

  is_owned : Mine.w.is_owned ≡ true
  is_owned = sym mine_mirrors.owned ∙ live_now me Mine.own.room handle Mine.w m Mine.mirrors

  -- The writer stays open, with another state in its place.
  pub goes_on : (declared : ActorDecl) (statement : Statement) (outcome : Outcome) (events : List Event) (v : PlainWriter) (left : WriterHandle) (out : Option WriterHandle) (q : Plain) → IsLawful m.state events → AreBy me events → LeavesRun me D m (moment_after m events) → MirrorsOwn me Mine.own.room left v (moment_after m events)
      → v.id ≡ Mine.w.id → v.host ≡ Mine.w.host → v.is_open ≡ Mine.w.is_open → v.is_owned ≡ Mine.w.is_owned → out ≡ Some left → Takes me declared actor p statement outcome q
      → q.rooms ≡ set p.rooms Mine.own.room (room_with v Mine.room) → q.actors ≡ p.actors → (moment_after m events).state.times ≡ q.times → q.mark ≡ p.mark → q.serial ≡ p.serial → TakesStep m me declared actor p statement outcome (moment_after m events) out
  goes_on declared statement outcome events v left out q lawful by leaves now id host opened owned out_is takes rooms actors times mark serial =
      let last : Moment = moment_after m events in
      let drawn = last_later D m last leaves.others in
      let named = subst IsNamed (λ i. record { room = Mine.own.room; host = sym host i; writer = sym id i }) mine_mirrors.named in
      let mirrored : MirrorsWriter last Mine.own.room v = own_writer me Mine.own.room left v last now named (omega (arith, mine_mirrors.drawn, drawn, id)) (opened ∙ is_open) (owned ∙ is_owned) in
      record {
        new = q;
        takes = takes;
        mirrors = machine_put m last D leaves.others Mine.w v id host refl mirrored p q Mine.room o Mine.there Mine.found (sound_after m events lawful o.sound) rooms times mark (leaves.serial ∙ o.serial ∙ sym serial);
        left = actor;
        its_actor = record {
          there = ap (λ (l : List PlainActor). slice_get l me) actors ∙ has.there;
          its_own = subst (λ x. MirrorsHandle last me q out x) (sym Mine.is) (subst (λ h. MirrorsHandle last me q h (Some Mine.own)) (sym out_is) (v, owned_put p q Mine.own.room Mine.room Mine.w v Mine.there Mine.found id rooms Mine.own refl (sym Mine.id), now));
        };
        reader = refl;
        others = λ other apart. ap (λ (l : List PlainActor). slice_get l other) actors;
        handles = λ other h own apart x. handle_other p q Mine.own.room Mine.room Mine.w v Mine.there Mine.found id rooms m events me other handle h own lawful by apart Mine.mirrors x;
      }

  -- ---- a sync

  pub sync_takes : (declared : ActorDecl) (events : List Event) (out : WriterOut) → IsLawful m.state events → GoesWell me events → AreBy me events → Runs me (sync_program handle) events out → TakesStep m me declared actor p Sync (sync_outcome out.result) (moment_after m events) out.handle
  sync_takes declared events out lawful well by runs =
      let w : PlainWriter = Mine.w in
      let v : PlainWriter = all_landed w in
      let q : Plain = with_room Mine.own.room (room_with v Mine.room) p in
      let s = syncs_plainly me Mine.own.room w m handle events out lawful well Mine.mirrors runs in
      let calls = asked_only (IsSyncing w.id) me events (sync_program handle) out (sync_asks w.id handle Mine.mirrors.writer) by runs in
      let its : AreItsCalls D events = All-weaker _ _ events (λ e x. (x.0, x.1.0, x.1.1)) calls in
      let leaves = leaves_run events m me D mine_mirrors.named o.sound lawful (has_own me Mine.own.room handle w m Mine.mirrors) its in
      let times = times_run events m w.id lawful (All-weaker _ _ events (λ e x. (x.0, x.1.0, x.1.2)) calls) in
      let outcome : sync_outcome out.result ≡ Synced (length w.issued) = ap (λ (x : WriterOut). sync_outcome x.result) s.is in
      goes_on declared Sync (sync_outcome out.result) events v s.handle out.handle q lawful by leaves s.mirrors refl refl refl refl (ap (λ (x : WriterOut). x.handle) s.is)
      (on_own actor Mine.own p (sync_outcome out.result) q (λ x r y. (sync_outcome out.result ≡ Synced (length y.issued)) × (q ≡ with_room x.room (room_with (all_landed y) r) p)) Mine.room w Mine.is Mine.there Mine.owned (outcome, refl))
      refl refl (times ∙ o.times) refl refl

-- ---- a write

pub when : (b : Bool) (X Y : Type 0) → b ≡ true → X → When b X Y
when b X Y t x = subst (λ c. When c X Y) (sym t) x

pub unless : (b : Bool) (X Y : Type 0) → b ≡ false → Y → When b X Y
unless b X Y t y = subst (λ c. When c X Y) (sym t) y

module _ (w : PlainWriter) where
  made_id : (made_room w).id ≡ w.id
  made_id = elim (nat_le w.capacity (length w.issued - w.landed)) as (λ b. (if b then all_landed w else w).id ≡ w.id) [ true ↦ refl | false ↦ refl ]

  made_host : (made_room w).host ≡ w.host
  made_host = elim (nat_le w.capacity (length w.issued - w.landed)) as (λ b. (if b then all_landed w else w).host ≡ w.host) [ true ↦ refl | false ↦ refl ]

  made_open : (made_room w).is_open ≡ w.is_open
  made_open = elim (nat_le w.capacity (length w.issued - w.landed)) as (λ b. (if b then all_landed w else w).is_open ≡ w.is_open) [ true ↦ refl | false ↦ refl ]

  made_owned : (made_room w).is_owned ≡ w.is_owned
  made_owned = elim (nat_le w.capacity (length w.issued - w.landed)) as (λ b. (if b then all_landed w else w).is_owned ≡ w.is_owned) [ true ↦ refl | false ↦ refl ]

module _ (m : Moment) (me : ℕ) (p : Plain) (handle : WriterHandle) (actor : PlainActor) (o : Mirrors m p) (has : HasActor m me p (Some handle) actor) (declared : ActorDecl) (at : ℕ) (content : Data) (events : List Event) (out : WriterOut) (lawful : IsLawful m.state events) (well : GoesWell me events) (by : AreBy me events) (some : nat_eq (length (bytes_of content)) 0 ≡ false) (runs : Runs me (write_program handle at (bytes_of content)) events out) where
  abbrev It : Own m me p handle actor
  It = its_own m me p handle actor has

  abbrev Block : List ℕ
  Block = bytes_of content

  abbrev V : PlainWriter
  V = made_room It.w

  abbrev Said : Outcome
  Said = write_outcome at (length Block) out.result

  abbrev Does : Type 0
  Does = TakesStep m me declared actor p (WriteData at content) Said (moment_after m events) out.handle

  write_leaves : LeavesRun me (dropping_of It.own.room It.w) m (moment_after m events)
  write_leaves =
      let calls = asked_only (IsInside It.w.id) me events (write_program handle at Block) out (write_asks It.w.id handle at Block It.mirrors.writer) by runs in
      leaves_run events m me (dropping_of It.own.room It.w) (mine_mirrors m me p handle actor o has).named o.sound lawful (has_own me It.own.room handle It.w m It.mirrors) (All-weaker _ _ events (λ e x. (x.0, x.1.0, x.1.1)) calls)

  -- the machine writes so now
  taken : (q : Plain) → WritesNow p It.own It.room V at Block Said q → Takes me declared actor p (WriteData at content) Said q
  taken q now = on_own actor It.own p Said q (λ x r y. When (nat_eq (length Block) 0) ((Said ≡ Wrote at 0 None) × (q ≡ p)) (WritesNow p x r (made_room y) at Block Said q)) It.room It.w It.is It.there It.owned (unless (nat_eq (length Block) 0) _ _ some now)

  -- it was refused
  refused_takes : (refusal : Refusal) (q : Plain) → q ≡ with_room It.own.room (room_with V It.room) p → WritesNow p It.own It.room V at Block Said q → RefusesOne m me It.own.room V refusal events out → Does
  refused_takes refusal q is now r =
      goes_on m me p handle actor o has declared (WriteData at content) Said events V r.keeps.handle out.handle q lawful by write_leaves r.keeps.mirrors (made_id It.w) (made_host It.w) (made_open It.w) (made_owned It.w) (ap (λ (x : WriterOut). x.handle) r.keeps.is) (taken q now)
      (ap (λ (x : Plain). x.rooms) is) (ap (λ (x : Plain). x.actors) is) (r.left by ∙ o.times ∙ sym (ap (λ (x : Plain). x.times) is)) (ap (λ (x : Plain). x.mark) is) (ap (λ (x : Plain). x.serial) is)

  abbrev TooLong : Bool
  TooLong = nat_lt MAX_SIZE (at + length Block) || nat_lt MAX_LOG (logged (entries_in V.issued) + length Block)

  abbrev NoStamp : Bool
  NoStamp = nat_le MAX_STAMP (last_of V.issued) || nat_le MAX_STAMP V.floor

  abbrev Ends : Option Refusal → Type 0
  Ends reason = MatchOption reason (WritesOne m me It.own.room V at Block events out) (λ refusal. RefusesOne m me It.own.room V refusal events out)

  too_far : TooLong ≡ true → RefusesOne m me It.own.room V refusal.TooFar events out → Does
  too_far long r = refused_takes refusal.TooFar (with_room It.own.room (room_with V It.room) p) refl (when TooLong _ _ long (ap (λ (x : WriterOut). write_outcome at (length Block) x.result) r.keeps.is, refl)) r

  no_stamp : TooLong ≡ false → NoStamp ≡ true → RefusesOne m me It.own.room V refusal.StampsSpent events out → Does
  no_stamp short spent r = refused_takes refusal.StampsSpent (with_room It.own.room (room_with V It.room) p) refl (unless TooLong _ _ short (when NoStamp _ _ spent (ap (λ (x : WriterOut). write_outcome at (length Block) x.result) r.keeps.is, refl))) r

  made : TooLong ≡ false → NoStamp ≡ false → WritesOne m me It.own.room V at Block events out → Does
  made short left x =
      let stamp : ℕ = next_stamp x.time (last_of V.issued) V.floor in
      let v : PlainWriter = one_more (issue V at Block stamp) V in
      let q : Plain = with_room It.own.room (room_with v It.room) (record p { times = x.times }) in
      let clock = x.left by in
      goes_on m me p handle actor o has declared (WriteData at content) Said events v x.keeps.handle out.handle q lawful by write_leaves x.keeps.mirrors (made_id It.w) (made_host It.w) (made_open It.w) (made_owned It.w) (ap (λ (y : WriterOut). y.handle) x.keeps.is)
      (taken q (unless TooLong _ _ short (unless NoStamp _ _ left (x.time, x.times, subst (λ t. Ticks t x.times x.time) o.times clock.0, (ap (λ (y : WriterOut). write_outcome at (length Block) y.result) x.keeps.is, refl)))))
      refl refl clock.1 refl refl

  -- A write is made, or refused for the machine's reason.
  pub write_takes : Does
  write_takes = elim TooLong as (λ b. TooLong ≡ b → Ends (if b then Some refusal.TooFar else if NoStamp then Some refusal.StampsSpent else None) → Does) [
    | true ↦ λ t r. too_far t r
    | false ↦ λ t. elim NoStamp as (λ b. NoStamp ≡ b → Ends (if b then Some refusal.StampsSpent else None) → Does) [
      | true ↦ λ spent r. no_stamp t spent r
      | false ↦ λ left x. made t left x
    ] refl
  ] refl (writes_plainly me It.own.room It.w m handle at Block events out lawful well It.mirrors runs)

-- the same of a write of some bytes
pub write_steps : (m : Moment) (me : ℕ) (p : Plain) (handle : WriterHandle) (actor : PlainActor) (declared : ActorDecl) (at : ℕ) (content : Data) (events : List Event) (out : WriterOut) → IsLawful m.state events → GoesWell me events → AreBy me events → Mirrors m p → HasActor m me p (Some handle) actor → 1 ≤ length (bytes_of content) → Runs me (write_program handle at (bytes_of content)) events out
    → TakesStep m me declared actor p (WriteData at content) (write_outcome at (length (bytes_of content)) out.result) (moment_after m events) out.handle
write_steps m me p handle actor declared at content events out lawful well by o has some runs =
    let t : nat_eq (length (bytes_of content)) 0 ≡ false = grind (arith, nat_tests, some) in
    write_takes m me p handle actor o has declared at content events out lawful well by t runs
