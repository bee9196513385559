-- A caller has a room to itself, and lets it go: what becomes of the room and of the mount.
use Rattle.std.proofs.Common.{◌≡◌, ◌⊎◌, ◌≤◌, ◌+◌, ℕ, Bool, true, false, nat_eq, List, [], ◌∷◌, ◌++◌, Some, None, Result, Ok, Err, refl, sym, ap, ◌∙◌, inl, inr, subst, arith, if◌then◌else◌}
use Rattle.std.specs.Prelude.{slice_get}
use Rattle.std.proofs.lemmas.Bool.Decides.{nat_tests}
use Rattle.store_api.specs.declared.step.Answer.TheVariants as answer
use Rattle.store_api.specs.declared.store.Trouble.TheVariants as trouble
use Rattle.store_api.specs.declared.tree.Room.{Room}
use Rattle.store_api.specs.Room.{has_folder}
use Rattle.store_laws.specs.Changes.{FolderMade, FolderRemoved, with_room}
use Rattle.store_laws.specs.Files.{SameButFolder, file_at}
use Rattle.store_laws.proofs.Facts.{acts_told, make_folder_told, remove_folder_told}
use Rattle.mount_model.specs.declared.call.Ask.{Ask}
use Rattle.mount_model.specs.declared.call.Call.{Call}
use Rattle.mount_model.specs.declared.call.Call.TheVariants.{Hold, Release}
use Rattle.mount_model.specs.declared.reply.Refusal.TheVariants as refusal
use Rattle.mount_model.specs.declared.reply.Reply.TheVariants.{Damaged, Done, Holding, Refused}
use Rattle.mount_model.specs.declared.row.Holder.{Holder}
use Rattle.mount_model.specs.Entering.{draw_check}
use Rattle.mount_model.specs.History.{Event}
use Rattle.mount_model.specs.Holding.{HoldOutcome, HoldsRoom, hold_step, holding, let_go, release_outcome, release_step}
use Rattle.mount_model.specs.Making.{MakesAct, Refuses, Told, otherwise}
use Rattle.container_layout.specs.Paths.{openhosts}
use Rattle.mount_model.specs.State.{State, Table}
use Rattle.mount_model.specs.Step.{Answers}
use Rattle.mount_model.specs.Table.{holder_of, without_holder}
use Rattle.mount_model.proofs.Facts.{is_holding, match_cases}
use Rattle.mount_sound.specs.Issued.{issued_after}
use Rattle.mount_sound.specs.Owed.{IsLawful}
use Rattle.mount_model.specs.Program.{done}
use Rattle.mount_model.specs.declared.stuck.Stuck.{Stuck}
use Rattle.mount_model.specs.Running.{Runs, unbroken}
use Rattle.reader_laws.specs.Moments.{IsSoundAt, Moment, moment_after, next_moment}
use Rattle.trunc_rename.specs.Holding.{lets_go, released}
use Rattle.mount_model.specs.History.{AreBy}
use Rattle.plain_plays.specs.Mirrors.{room_then, room_told}
use Rattle.plain_plays.specs.Served.{GoesWell}
use Rattle.plain_plays.proofs.PlainSteps.Reaching.{ended, over_alone}
use Rattle.plain_plays.proofs.PlainSteps.Steps.Alone.{First, first_call}
use Rattle.plain_plays.proofs.PlainSteps.ByName.Turning.{KeepsTable, Turns, turns_so}
use Rattle.plain_plays.proofs.PlainSteps.Truncating.{HoldsIt, hold_does}

-- ---- one holder

one_holder : (me number : ℕ) (x h : Holder) → holder_of me number (x ∷ []) ≡ Some h → (x ≡ h) × (h.number ≡ number)
one_holder me number x h e =
    let is = is_holding me number (x ∷ []) h e in
    (first (nat_eq x.number number) is.found, is.is)
  where
    first : (b : Bool) → (if b then Some x else None) ≡ Some h → x ≡ h
    first true f = cc
    first false f = absurd (cc)

none_left : (h : Holder) → without_holder h.number (h ∷ []) ≡ []
none_left h = let same : nat_eq h.number h.number ≡ true = grind (arith, nat_tests) in rw same refl

-- ---- the room is the caller's

-- The room has no folder of open writers any more, which was empty. Nobody else holds a room, and an id was drawn.
pub record HasToItself (me n holder : ℕ) (m next : Moment) : Type 0 where
  pub old : Room
  pub new : Room
  pub turns : Turns n old new m next
  pub same : SameButFolder openhosts old new
  pub opened : has_folder old openhosts ≡ true
  pub shut : has_folder new openhosts ≡ false
  pub bare : (file : List ℕ) → file_at old (record { folder = openhosts; file = file }) ≡ None
  pub h : Holder
  pub holds : holder_of me holder next.state.table.holders ≡ Some h
  pub room_is : h.room ≡ n
  pub number : h.number ≡ holder
  pub holders : next.state.table.holders ≡ h ∷ []
  pub times : next.state.times ≡ m.state.times
  pub serial : next.state.serial ≡ m.state.serial + 1

not_holding : (folder file : List ℕ) (told : Told) (holder : ℕ) → Holding holder ≡ otherwise folder file told → ⊥
not_holding folder file (Ok answer.NoRoom) holder e = absurd cc
not_holding folder file (Ok answer.NoFolder) holder e = absurd cc
not_holding folder file (Ok told) holder e = absurd cc
not_holding folder file (Err trouble.Fault) holder e = absurd cc
not_holding folder file (Err trouble.NoMemory) holder e = absurd cc

hold_made : (h : Holder) (table : Table) (told : Told) (holder : ℕ) (after : Table) → HoldOutcome h table told (Holding holder) after → (told ≡ Ok answer.Made) × (after ≡ record table { holders = table.holders ++ h ∷ [] })
hold_made h table (Ok answer.Made) holder after o = (refl, o.1)
hold_made h table (Ok answer.NoFolder) holder after o = absurd (let e : Holding holder ≡ Refused refusal.Held = o.0 in cc)
hold_made h table (Ok (answer.NotEmpty least)) holder after o = absurd (elim o.0 as (λ _. ⊥) [
  | inl busy ↦ (let e : Holding holder ≡ Refused (refusal.Busy busy.0 busy.1) = busy.3 in cc)
  | inr other ↦ (let e : Holding holder ≡ Damaged openhosts least = other.1 in cc)
])
hold_made h table told holder after o = absurd (not_holding openhosts [] told holder o.0)

-- the table's writers, and what was issued, are as they were
pub table_kept : (m : Moment) (event : Event) (q : Call) → event.ask ≡ unbroken q → issued_after m.issued m.state q event.reply ≡ m.issued → event.after.table.writers ≡ m.state.table.writers → event.after.marks ≡ m.state.marks → event.after.mount ≡ m.state.mount → m.state.serial ≤ event.after.serial → KeepsTable m (next_moment m event)
table_kept m event q asked issued writers marks mount drawn = record {
  issued = ap (λ (a : Ask). issued_after m.issued m.state a.call event.reply) asked ∙ issued;
  writers = writers;
  marks = marks;
  mount = mount;
  drawn = drawn;
}

pub hold_turns : (m : Moment) (s : IsSoundAt m) (me n holder : ℕ) (event : Event) → m.state.table.holders ≡ [] → event.ask ≡ unbroken (Hold n) → Answers m.state me (Hold n) (Holding holder) event.after → HasToItself me n holder m (next_moment m event)
hold_turns m s me n holder event nobody asked a = elim (match_cases (draw_check m.state n) (HoldsRoom me n m.state (Holding holder) event.after) (λ why. Refuses why m.state (Holding holder) event.after) a) as (λ _. HasToItself me n holder m (next_moment m event)) [
  | inr (why, some, refused) ↦ absurd (let e : Holding holder ≡ Refused why = refused.0 in cc)
  | inl (free, does) ↦
      let next : Moment = next_moment m event in
      let mine : Holder = holding m.state me n in
      let made = hold_made mine m.state.table does.told holder event.after.table does.outcome in
      let t = acts_told (hold_step n) m.state.store event.after.store s.shape.tree does.told s.shape.told does.made in
      let c : FolderRemoved s.shape.tree n openhosts t.0 = (remove_folder_told n openhosts s.shape.tree does.told t.0 t.2).done made.0 in
      let k : HoldsIt me n holder next = hold_does m s me n holder event a in
      let serial : event.after.serial ≡ m.state.serial + 1 = ap (λ (x : State). x.serial) does.after in
      let holders : event.after.table.holders ≡ mine ∷ [] = ap (λ (x : Table). x.holders) made.1 ∙ ap (λ hs. hs ++ mine ∷ []) nobody in
      let one = one_holder me holder mine k.h (subst (λ hs. holder_of me holder hs ≡ Some k.h) holders k.held) in
      record {
        old = c.room;
        new = c.new;
        turns = turns_so n c.room c.new m next s.shape.tree t.0 s.shape.told t.1 c.has_room c.gives
            (table_kept m event (Hold n) asked refl (ap (λ (x : Table). x.writers) made.1) (ap (λ (x : State). x.marks) does.after) (ap (λ (x : State). x.mount) does.after) (omega (arith, serial)));
        same = c.others;
        opened = c.there;
        shut = c.gone;
        bare = c.empty;
        h = k.h;
        holds = k.held;
        room_is = k.room_is;
        number = one.1;
        holders = holders ∙ ap (λ x. x ∷ []) one.0;
        times = ap (λ (x : State). x.times) does.after;
        serial = serial;
      }
]

-- ---- it is let go

-- The room has its folder of open writers again, nobody holds a room, and the program ended with this.
pub record IsLetGo {R : Type 0} (n : ℕ) (room : Room) (m last : Moment) (outcome out : Result R Stuck) : Type 0 where
  pub new : Room
  pub turns : Turns n room new m last
  pub same : SameButFolder openhosts room new
  pub opened : has_folder new openhosts ≡ true
  pub none : last.state.table.holders ≡ []
  pub times : last.state.times ≡ m.state.times
  pub serial : last.state.serial ≡ m.state.serial
  pub sound : IsSoundAt last
  pub is : out ≡ outcome

-- the folder was made, and the table has no holder any more
release_made : (h : Holder) (table : Table) (told : Told) → Done ≡ (release_outcome h table told).reply → ((told ≡ Ok answer.Made) ⊎ ((k : ℕ) × (told ≡ Ok (answer.Old k)))) × ((release_outcome h table told).table ≡ let_go h.number table)
release_made h table (Ok answer.Made) e = (inl refl, refl)
release_made h table (Ok (answer.Old k)) e = (inr (k, refl), refl)
release_made h table (Ok answer.NoRoom) e = absurd (cc)
release_made h table (Ok answer.NoFolder) e = absurd (cc)
release_made h table (Ok other) e = absurd (cc)
release_made h table (Err trouble.Fault) e = absurd (cc)
release_made h table (Err trouble.NoMemory) e = absurd (cc)

module _ {R : Type 0} (m : Moment) (s : IsSoundAt m) (me n holder : ℕ) (room : Room) (at : room_then m n ≡ Some room) (shut : has_folder room openhosts ≡ false) (h : Holder) (holds : holder_of me holder m.state.table.holders ≡ Some h) (room_is : h.room ≡ n) (holders : m.state.table.holders ≡ h ∷ []) (outcome : Result R Stuck) (events : List Event) (out : Result R Stuck) (lawful : IsLawful m.state events) (well : GoesWell me events) (by : AreBy me events) (runs : Runs me (lets_go holder outcome) events out) where
  abbrev Call1 : First m me (Release holder) (λ reply. done (released outcome reply)) events out
  Call1 = first_call m me (Release holder) (λ reply. done (released outcome reply)) events out s lawful well by runs

  abbrev Next : Moment
  Next = next_moment m Call1.event

  done_so : (b : Result R Stuck) → released b Done ≡ b
  done_so (Ok r) = refl
  done_so (Err why) = refl

  let_go_so : Call1.event.reply ≡ Done → IsLetGo n room m (moment_after m events) outcome out
  let_go_so told =
      let on = subst (λ x. Runs me (done x) Call1.rest out) (ap (released outcome) told ∙ done_so outcome) Call1.runs in
      let a = subst (λ x. Answers m.state me (Release holder) x Call1.event.after) told Call1.answers in
      let same : Next ≡ moment_after m events = ap (moment_after Next) (sym (over_alone me outcome Call1.rest out Call1.by on)) ∙ Call1.ends in
      elim (match_cases (holder_of me holder m.state.table.holders) (Refuses refusal.NotHolder m.state Done Call1.event.after) (λ x. MakesAct (release_step x) (release_outcome x m.state.table) m.state Done Call1.event.after) a) as (λ _. IsLetGo n room m (moment_after m events) outcome out) [
        | inl (none, refused) ↦ absurd (let clash : Some h ≡ None = sym holds ∙ none in cc)
        | inr (x, some, does) ↦
            let one : x ≡ h = (let both : Some x ≡ Some h = sym some ∙ holds in cc) in
            let here : x.room ≡ n = ap (λ (y : Holder). y.room) one ∙ room_is in
            let r = release_made x m.state.table does.told does.answered in
            let t = acts_told (release_step x) m.state.store Call1.event.after.store s.shape.tree does.told s.shape.told does.made in
            let made = make_folder_told x.room openhosts s.shape.tree does.told t.0 t.2 in
            let c : FolderMade s.shape.tree x.room openhosts t.0 = elim r.0 as (λ _. FolderMade s.shape.tree x.room openhosts t.0) [
              | inl is ↦ made.done is
              | inr (k, is) ↦ absurd (let w = (made.stays (answer.Old k) is (λ clash. cc)).1.1 in let clash : true ≡ false = sym w.there ∙ ap (λ y. has_folder y openhosts) (its w.room x here w.has_room) ∙ shut in cc)
            ] in
            subst (λ last. IsLetGo n room m last outcome out) same (record {
              new = c.new;
              turns = turns_so n room c.new m Next s.shape.tree t.0 s.shape.told t.1 (subst (λ (y : Room). slice_get s.shape.tree.rooms n ≡ Some y) (its c.room x here c.has_room) (subst (λ k. slice_get s.shape.tree.rooms k ≡ Some c.room) here c.has_room)) (c.gives ∙ ap (λ k. with_room s.shape.tree k c.new) here)
                  (table_kept m Call1.event (Release holder) Call1.asked refl (ap (λ (y : State). y.table.writers) does.after ∙ ap (λ (y : Table). y.writers) r.1) (ap (λ (y : State). y.marks) does.after) (ap (λ (y : State). y.mount) does.after) (let e = ap (λ (y : State). y.serial) does.after in omega (arith, e)));
              same = subst (λ y. SameButFolder openhosts y c.new) (its c.room x here c.has_room) c.others;
              opened = c.now;
              none = ap (λ (y : State). y.table.holders) does.after ∙ ap (λ (y : Table). y.holders) r.1 ∙ ap (λ hs. without_holder x.number hs) holders ∙ ap (λ (y : Holder). without_holder y.number (h ∷ [])) one ∙ none_left h;
              times = ap (λ (y : State). y.times) does.after;
              serial = ap (λ (y : State). y.serial) does.after;
              sound = Call1.sound;
              is = sym (ended me outcome Call1.rest out on);
            })
      ]
    where
      its : (r : Room) (x : Holder) → x.room ≡ n → slice_get s.shape.tree.rooms x.room ≡ Some r → r ≡ room
      its r x here there =
          let both : Some r ≡ Some room = sym there ∙ ap (λ k. slice_get s.shape.tree.rooms k) here ∙ sym (ap (λ t. room_told t n) s.shape.told) ∙ at in cc

  -- The release does its work.
  pub lets_it_go : IsLetGo n room m (moment_after m events) outcome out
  lets_it_go = elim Call1.served as (λ _. IsLetGo n room m (moment_after m events) outcome out) [
    | inl told ↦ let_go_so told
    | inr (why, told, reason) ↦ absurd (let clash : Some h ≡ None = sym holds ∙ reason.1 in cc)
  ]
