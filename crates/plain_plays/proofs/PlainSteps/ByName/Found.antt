-- A statement finds its room by the name, as a plain machine does.
use Rattle.std.proofs.Common.{◌≡◌, ◌⊎◌, ℕ, List, ◌∷◌, [], Option, Some, None, Ok, Err, sym, ap, ◌∙◌, inl, inr, subst}
use Rattle.std.specs.Prelude.{MatchOption, slice_get, slice_index}
use Rattle.script_lang.specs.declared.line.Outcome.{Outcome}
use Rattle.script_lang.specs.declared.line.Why.TheVariants as why
use Rattle.script_lang.specs.declared.script.ActorDecl.{ActorDecl}
use Rattle.script_lang.specs.declared.script.Statement.{Statement}
use Rattle.store_api.specs.declared.step.Answer.TheVariants as answer
use Rattle.store_api.specs.declared.store.Trouble.TheVariants as trouble
use Rattle.store_api.specs.declared.tree.Room.{Room as RoomThere}
use Rattle.store_api.specs.declared.tree.Tree.{Tree}
use Rattle.store_api.specs.Step.{find_room}
use Rattle.store_laws.specs.Says.{FindTells}
use Rattle.store_laws.specs.Tells.{Tells}
use Rattle.store_laws.specs.There.{IsRoomOf}
use Rattle.store_laws.proofs.Facts.{acts_told, find_tells, look_answered}
use Rattle.mount_model.specs.declared.call.Ask.{Ask}
use Rattle.mount_model.specs.declared.call.Call.{Call}
use Rattle.mount_model.specs.declared.call.Call.TheVariants.{Find}
use Rattle.mount_model.specs.declared.reply.Refusal.TheVariants as refusal
use Rattle.mount_model.specs.declared.reply.Reply.{Reply}
use Rattle.mount_model.specs.declared.reply.Reply.TheVariants.{Refused, Room}
use Rattle.mount_model.specs.Finding.{find_outcome}
use Rattle.mount_model.specs.History.{Event}
use Rattle.mount_model.specs.Making.{Told}
use Rattle.mount_model.specs.Paths.{Name, access_path}
use Rattle.mount_model.specs.State.{State, Table}
use Rattle.mount_model.specs.Step.{Answers}
use Rattle.mount_sound.specs.Owed.{IsLawful}
use Rattle.mount_model.specs.Program.{Program, ask}
use Rattle.mount_model.specs.Running.{Runs}
use Rattle.reader_laws.specs.Moments.{IsSoundAt, Moment, file_in_room, file_told, moment_after, next_moment}
use Rattle.writer_flow.specs.declared.handle.WriterHandle.{WriterHandle}
use Rattle.plain_machine.specs.Machine.{Plain, PlainActor, PlainRoom}
use Rattle.plain_machine.specs.Cases.{InRoom, IsRefused, OnRoom}
use Rattle.plain_machine.specs.Finding.{find}
use Rattle.mount_model.specs.History.{AreBy}
use Rattle.plain_plays.specs.Mirrors.{Mirrors, MirrorsAt, MirrorsRoom, room_then, room_told}
use Rattle.plain_plays.specs.Served.{GoesWell}
use Rattle.plain_plays.specs.Stepping.{TakesStep}
use Rattle.plain_plays.proofs.PlainSteps.Entering.{IsContainerAt}
use Rattle.plain_plays.proofs.PlainSteps.Steps.Alone.{First, first_call}
use Rattle.plain_plays.proofs.PlainSteps.ByName.Looking.{IsAlike, IsSight, event_alike, handle_alike, machine_alike}
use Rattle.plain_plays.proofs.PlainSteps.Steps.Making.{found_there, none_there, some_room}

-- ---- what the machine does with a name

pub no_room : (p : Plain) (name : Name) (outcome : Outcome) (new : Plain) (does : ℕ → PlainRoom → Type 0) → find p name ≡ None → IsRefused outcome why.NoFile p new → OnRoom p name outcome new does
no_room p name outcome new does none refused = subst (λ o. MatchOption o (IsRefused outcome why.NoFile p new) (λ number. InRoom p number (does number))) (sym none) refused

pub on_room : (p : Plain) (name : Name) (outcome : Outcome) (new : Plain) (does : ℕ → PlainRoom → Type 0) (number : ℕ) (room : PlainRoom) → find p name ≡ Some number → slice_get p.rooms number ≡ Some room → does number room → OnRoom p name outcome new does
on_room p name outcome new does number room found there done = subst (λ o. MatchOption o (IsRefused outcome why.NoFile p new) (λ k. InRoom p k (does k))) (sym found) (room, there, done)

-- ---- a step from a moment that is alike

pub step_later : (m next last : Moment) (me : ℕ) (declared : ActorDecl) (actor : PlainActor) (p : Plain) (statement : Statement) (outcome : Outcome) (handle : Option WriterHandle) → IsAlike m next → IsSoundAt next → TakesStep next me declared actor p statement outcome last handle → TakesStep m me declared actor p statement outcome last handle
step_later m next last me declared actor p statement outcome handle l sound s = record {
  new = s.new;
  takes = s.takes;
  mirrors = s.mirrors;
  left = s.left;
  its_actor = s.its_actor;
  reader = s.reader;
  others = s.others;
  handles = λ other h own apart x. s.handles other h own apart (handle_alike m next l sound p other h own x);
}

-- ---- the call

-- The room of this name is there, and the mount is as it was.
pub record IsFound (m mid : Moment) (p : Plain) (name : Name) (number : ℕ) : Type 0 where
  pub alike : IsAlike m mid
  pub mirrors : Mirrors mid p
  pub is : find p name ≡ Some number
  pub room : PlainRoom
  pub there : slice_get p.rooms number ≡ Some room
  pub old : RoomThere
  pub at : room_then mid number ≡ Some old
  pub has : MirrorsRoom mid number old room
  pub had : IsContainerAt number mid

-- The program's first call was this one, and it goes on with that reply.
pub record GoesOn {R : Type 0} (m : Moment) (me : ℕ) (k : Reply → Program Call Reply R) (reply : Reply) (events : List Event) (out : R) : Type 0 where
  pub mid : Moment
  pub sound : IsSoundAt mid
  pub event : Event
  pub told : event.reply ≡ reply
  pub rest : List Event
  pub are : events ≡ event ∷ rest
  pub lawful : IsLawful mid.state rest
  pub well : GoesWell me rest
  pub by : AreBy me rest
  pub runs : Runs me (k reply) rest out
  pub ends : moment_after mid rest ≡ moment_after m events

told_number : (table : Table) (told : Told) (n : ℕ) → Room n ≡ (find_outcome table told).reply → told ≡ Ok (answer.Number n)
told_number table (Ok (answer.Number k)) n e = let same : k ≡ n = cc in ap (λ j. Ok (answer.Number j)) same
told_number table (Ok answer.Absent) n e = absurd (cc)
told_number table (Ok answer.NoRoom) n e = absurd (cc)
told_number table (Ok answer.NoFolder) n e = absurd (cc)
told_number table (Ok other) n e = absurd (cc)
told_number table (Err trouble.Fault) n e = absurd (cc)
told_number table (Err trouble.NoMemory) n e = absurd (cc)

found_room : (m : Moment) (s : IsSoundAt m) (me : ℕ) (name : Name) (n : ℕ) (after : State) → Answers m.state me (Find name) (Room n) after → IsRoomOf s.shape.tree name n
found_room m s me name n after a =
    let tree : Tree = s.shape.tree in
    let t = acts_told (find_room name) m.state.store after.store tree a.makes.told s.shape.told a.makes.made in
    let is = told_number m.state.table a.makes.told n a.makes.answered in
    (look_answered (find_room name) tree (FindTells tree name) (find_tells tree name) (answer.Number n) t.0 (subst (λ o. Tells (find_room name) tree o t.0) is t.2)).1

-- a room of a file's name is a container
container_of : (m : Moment) (s : IsSoundAt m) (me : ℕ) (name : Name) (n : ℕ) (after : State) → Answers m.state me (Find name) (Room n) after → (r : IsRoomOf s.shape.tree name n) → IsContainerAt n m
container_of m s me name n after a r = elim (s.shape.shaped.rooms n r.room r.has_room) as (λ _. IsContainerAt n m) [
  | inl marks ↦ absurd (a.named.no_dot (ap (λ l. slice_index l 0) (sym r.named ∙ marks.named)))
  | inr c ↦ record {
    is_item = record { in_range = tt; widths = tt };
    bytes = [];
    there = ap (λ o. file_told o n access_path) s.shape.told ∙ ap (λ o. file_in_room o access_path) r.has_room ∙ c.has_access;
  }
]

module _ {R : Type 0} (m : Moment) (me : ℕ) (p : Plain) (o : Mirrors m p) (name : Name) (k : Reply → Program Call Reply R) (events : List Event) (out : R) (lawful : IsLawful m.state events) (well : GoesWell me events) (by : AreBy me events) (runs : Runs me (ask (Find name) k) events out) where
  abbrev FirstCall : First m me (Find name) k events out
  FirstCall = first_call m me (Find name) k events out o.sound lawful well by runs

  same_then : IsAlike m (next_moment m FirstCall.event)
  same_then = event_alike m o.sound FirstCall.event (FirstCall.whole.0, FirstCall.whole.1, tt) (ap (λ (a : Ask). a.stop) FirstCall.asked) (subst (λ (a : Ask). IsSight a.call) (sym FirstCall.asked) tt)

  abbrev goes_on : (reply : Reply) → FirstCall.event.reply ≡ reply → GoesOn m me k reply events out
  goes_on reply told = record {
    mid = next_moment m FirstCall.event;
    sound = FirstCall.sound;
    event = FirstCall.event;
    told = told;
    rest = FirstCall.rest;
    are = FirstCall.are;
    lawful = FirstCall.whole.2;
    well = FirstCall.well;
    by = FirstCall.by;
    runs = subst (λ x. Runs me (k x) FirstCall.rest out) told FirstCall.runs;
    ends = FirstCall.ends;
  }

  found_so : (n : ℕ) → FirstCall.event.reply ≡ Room n → IsFound m (next_moment m FirstCall.event) p name n
  found_so n told =
      let next : Moment = next_moment m FirstCall.event in
      let a = subst (λ x. Answers m.state me (Find name) x FirstCall.event.after) told FirstCall.answers in
      let r = found_room m o.sound me name n FirstCall.event.after a in
      let c = container_of m o.sound me name n FirstCall.event.after a r in
      let then_shown : room_then next n ≡ Some r.room = ap (λ t. room_told t n) same_then.tree ∙ ap (λ t. room_told t n) o.sound.shape.told ∙ r.has_room in
      let mirrors : Mirrors next p = machine_alike m next same_then FirstCall.sound p o in
      let s = some_room next n r.room (slice_get p.rooms n) (subst (λ x. MirrorsAt next n x (slice_get p.rooms n)) then_shown (mirrors.rooms n)) in
      record {
        alike = same_then;
        mirrors = mirrors;
        is = found_there m p o.sound.shape.tree name n o o.sound.shape.told r;
        room = s.0;
        there = s.1;
        old = r.room;
        at = then_shown;
        has = s.2;
        had = record { is_item = c.is_item; bytes = c.bytes; there = ap (λ t. file_told t n access_path) same_then.tree ∙ c.there };
      }

  -- The room is found, or nobody has the name.
  pub finds : ((n : ℕ) × (g : GoesOn m me k (Room n) events out) × IsFound m g.mid p name n) ⊎ ((g : GoesOn m me k (Refused refusal.NoRoom) events out) × IsAlike m g.mid × (find p name ≡ None))
  finds = elim FirstCall.served as (λ _. ((n : ℕ) × (g : GoesOn m me k (Room n) events out) × IsFound m g.mid p name n) ⊎ ((g : GoesOn m me k (Refused refusal.NoRoom) events out) × IsAlike m g.mid × (find p name ≡ None))) [
    | inl (n, told) ↦ inl (n, goes_on (Room n) told, found_so n told)
    | inr (because, told, reason) ↦ inr (
      goes_on (Refused refusal.NoRoom) (told ∙ ap Refused reason.0),
      same_then,
      none_there m p o.sound.shape.tree name o o.sound.shape.told (reason.1 o.sound.shape.tree o.sound.shape.told),
    )
  ]
