-- A statement that wants a room to itself: it is refused as a plain machine refuses it, or goes on with the room.
use Rattle.std.proofs.Common.{◌≡◌, ◌⊎◌, ◌≤◌, ◌<◌, ◌+◌, ◌-◌, ◌^◌, ℕ, suc, Bool, true, false, not, nat_eq, List, [], ◌∷◌, length, Option, Some, None, Result, Ok, Err, refl, sym, ap, ◌∙◌, inl, inr, subst, arith}
use Rattle.std.specs.Prelude.{slice_get}
use Rattle.std.specs.List.{Any}
use Rattle.std.proofs.lemmas.Bool.Decides.{nat_tests}
use Rattle.container_layout.specs.declared.items.Item.TheVariants as item
use Rattle.container_layout.specs.Items.{IsItem}
use Rattle.script_lang.specs.declared.line.Outcome.{Outcome}
use Rattle.script_lang.specs.declared.line.Outcome.TheVariants.{Refused as Refusing}
use Rattle.script_lang.specs.declared.script.ActorDecl.{ActorDecl}
use Rattle.script_lang.specs.declared.script.Statement.{Statement}
use Rattle.store_api.specs.declared.step.Answer.{Answer}
use Rattle.store_api.specs.declared.step.Answer.TheVariants as answer
use Rattle.store_api.specs.declared.store.Trouble.TheVariants as trouble
use Rattle.store_api.specs.declared.tree.Room.{Room}
use Rattle.store_api.specs.Room.{has_folder}
use Rattle.store_laws.specs.Files.{file_at}
use Rattle.store_laws.specs.There.{LacksFolder, ListsFolder}
use Rattle.store_laws.proofs.Facts.{acts_told, remove_folder_told}
use Rattle.mount_model.specs.declared.call.Call.TheVariants.{Hold}
use Rattle.mount_model.specs.declared.reply.Refusal.{Refusal}
use Rattle.mount_model.specs.declared.reply.Refusal.TheVariants as refusal
use Rattle.mount_model.specs.declared.reply.Reply.TheVariants.{Holding, Refused}
use Rattle.mount_model.specs.declared.row.Holder.{Holder}
use Rattle.mount_model.specs.Entering.{draw_check}
use Rattle.mount_model.specs.History.{Event}
use Rattle.mount_model.specs.Holding.{HoldOutcome, HoldsRoom, hold_step, holding}
use Rattle.mount_model.specs.Making.{Refuses, Told, otherwise}
use Rattle.mount_model.specs.Paths.{Name}
use Rattle.container_layout.specs.Paths.{openhosts}
use Rattle.mount_model.specs.State.{State, Table}
use Rattle.mount_model.specs.Step.{Answers}
use Rattle.mount_model.proofs.Facts.{match_cases}
use Rattle.mount_sound.specs.Owed.{IsLawful}
use Rattle.refusal_laws.specs.Reasons.{HasReason}
use Rattle.mount_model.specs.declared.stuck.Stuck.{Stuck}
use Rattle.mount_model.specs.declared.stuck.Stuck.TheVariants as stuck
use Rattle.mount_model.specs.FlowReplies.{Tries, failure, given}
use Rattle.mount_model.specs.Running.{Runs}
use Rattle.reader_laws.specs.GatheringListing.{AreTruncsAt}
use Rattle.reader_laws.specs.Moments.{IsSoundAt, Moment, moment_after, next_moment}
use Rattle.reader_laws.proofs.Gathered.Facts.{any_found}
use Rattle.outcomes.specs.Outcomes.{or_stuck, why_of}
use Rattle.trunc_rename.specs.Holding.{holder_in, holds}
use Rattle.writer_flow.specs.declared.handle.WriterHandle.{WriterHandle}
use Rattle.plain_machine.specs.Machine.{Plain, PlainActor, PlainRoom, PlainWriter}
use Rattle.plain_machine.specs.Becoming.{drawn, is_spent}
use Rattle.plain_machine.specs.ByName.{Holds, IsLeastOpen}
use Rattle.plain_machine.specs.Finding.{open_writers}
use Rattle.plain_machine.specs.Statements.{Takes}
use Rattle.mount_model.specs.History.{AreBy}
use Rattle.plain_plays.specs.Mirrors.{Mirrors, MirrorsRoom, room_then, room_told}
use Rattle.plain_plays.specs.Opens.{IsSpent}
use Rattle.plain_plays.specs.Served.{GoesWell}
use Rattle.plain_plays.specs.Stepping.{HasActor, TakesStep}
use Rattle.plain_plays.proofs.PlainSteps.Entering.{IsContainerAt, has_room, not_marks, only_spent}
use Rattle.plain_plays.proofs.PlainSteps.Reaching.{ended, over_alone}
use Rattle.plain_plays.proofs.PlainSteps.Steps.Alone.{First, first_call}
use Rattle.plain_plays.proofs.PlainSteps.ByName.Holding.{HasToItself, hold_turns, table_kept}
use Rattle.plain_plays.proofs.PlainSteps.Steps.Keeping.{unless, when}
use Rattle.plain_plays.proofs.PlainSteps.ByName.OpenWriters.{least_open, nobody_open}
use Rattle.plain_plays.proofs.PlainSteps.ByName.Turning.{KeepsTable, Turns, all_kept, room_so, truncs_kept, turned_takes, turns_none}

-- ---- a hold that was refused

-- the store answered otherwise, and the table is as it was
record NotHeld (h : Holder) (table : Table) (told : Told) (reason : Refusal) (after : Table) : Type 0 where
  answered : Answer
  is : told ≡ Ok answered
  other : answered ≡ answer.Made → ⊥
  same : after ≡ table
  named : (host writer : ℕ) → reason ≡ refusal.Busy host writer → IsItem (item.OpenHost host writer)

not_told : (folder file : Name) (told : Told) (reason : Refusal) → Refused reason ≡ otherwise folder file told → (told ≡ Ok answer.NoRoom) × (reason ≡ refusal.NoRoom)
not_told folder file (Ok answer.NoRoom) reason e = (refl, cc)
not_told folder file (Ok answer.NoFolder) reason e = absurd (cc)
not_told folder file (Ok told) reason e = absurd (cc)
not_told folder file (Err trouble.Fault) reason e = absurd (cc)
not_told folder file (Err trouble.NoMemory) reason e = absurd (cc)

otherwise_told : (h : Holder) (table : Table) (told : Told) (reason : Refusal) (after : Table) → Refused reason ≡ otherwise openhosts [] told → after ≡ table → NotHeld h table told reason after
otherwise_told h table told reason after e same =
    let t = not_told openhosts [] told reason e in
    record { answered = answer.NoRoom; is = t.0; other = λ clash. cc; same = same; named = λ host writer busy. absurd (let clash : refusal.NoRoom ≡ refusal.Busy host writer = sym t.1 ∙ busy in cc) }

not_held : (h : Holder) (table : Table) (told : Told) (reason : Refusal) (after : Table) → HoldOutcome h table told (Refused reason) after → NotHeld h table told reason after
not_held h table (Ok answer.Made) reason after o = absurd (let e : Refused reason ≡ Holding h.number = o.0 in cc)
not_held h table (Ok answer.NoFolder) reason after o = record {
  answered = answer.NoFolder;
  is = refl;
  other = λ clash. cc;
  same = o.1;
  named = λ host writer busy. absurd (let e : Refused reason ≡ Refused refusal.Held = o.0 in let clash : refusal.Busy host writer ≡ reason = sym busy in cc);
}
not_held h table (Ok (answer.NotEmpty least)) reason after o = record {
  answered = answer.NotEmpty least;
  is = refl;
  other = λ clash. cc;
  same = o.1;
  named = λ host writer busy. elim o.0 as (λ _. IsItem (item.OpenHost host writer)) [
    | inl x ↦ let e : Refused reason ≡ Refused (refusal.Busy x.0 x.1) = x.3 in let host_same : x.0 ≡ host = cc in let writer_same : x.1 ≡ writer = cc in subst (λ k. IsItem (item.OpenHost k writer)) host_same (subst (λ k. IsItem (item.OpenHost x.0 k)) writer_same x.2.is_item)
    | inr x ↦ absurd (let e = x.1 in cc)
  ];
}
not_held h table told reason after o = otherwise_told h table told reason after o.0 o.1

flipped : (b : Bool) → not b ≡ false → b ≡ true
flipped true e = refl
flipped false e = absurd (cc)

opened_so : (b : Bool) → not b ≡ true → b ≡ false
opened_so true e = absurd (cc)
opened_so false e = refl

module _ {R : Type 0} (says : R → Outcome) (m : Moment) (me : ℕ) (p : Plain) (actor : PlainActor) (handle : Option WriterHandle) (declared : ActorDecl) (statement : Statement) (o : Mirrors m p) (has : HasActor m me p handle actor) (n : ℕ) (room : PlainRoom) (there : slice_get p.rooms n ≡ Some room) (r : Room) (at : room_then m n ≡ Some r) (shows : MirrorsRoom m n r room) (had : IsContainerAt n m) (does : Outcome → Plain → Plain → Type 0)
    (takes_on : (outcome : Outcome) (q : Plain) → Holds p room outcome q (does outcome q) → Takes me declared actor p statement outcome q) (next : ℕ → Tries R) (events : List Event) (out : Result R Stuck) (lawful : IsLawful m.state events) (well : GoesWell me events) (by : AreBy me events) (runs : Runs me (holds n next) events out) where
  abbrev Said : Outcome
  Said = or_stuck says out

  abbrev Step : Moment → Type 0
  Step last = TakesStep m me declared actor p statement Said last handle

  abbrev Hold1 : First m me (Hold n) (λ reply. given (holder_in reply) (failure reply) next) events out
  Hold1 = first_call m me (Hold n) (λ reply. given (holder_in reply) (failure reply) next) events out o.sound lawful well by runs

  abbrev After : Moment
  After = next_moment m Hold1.event

  its_held : has_folder r openhosts ≡ not room.is_held
  its_held = shows.held (not_marks m o.sound n had)

  -- the statement ends with the refusal
  refused_ends : (reason : Refusal) → Hold1.event.reply ≡ Refused reason → (out ≡ Err (stuck.Refused reason)) × (After ≡ moment_after m events)
  refused_ends reason told =
      let on = subst (λ x. Runs me (given (holder_in x) (failure x) next) Hold1.rest out) told Hold1.runs in
      (sym (ended me (Err (stuck.Refused reason)) Hold1.rest out on), ap (moment_after After) (sym (over_alone me (Err (stuck.Refused reason)) Hold1.rest out Hold1.by on)) ∙ Hold1.ends)

  said_so : (reason : Refusal) → Hold1.event.reply ≡ Refused reason → Said ≡ Refusing (why_of reason)
  said_so reason told = ap (or_stuck says) (refused_ends reason told).0

  -- nothing of the room changes, and the machine has drawn a serial or not
  stays_so : (q : Plain) (reason : Refusal) → Hold1.event.reply ≡ Refused reason → After.state.store.tree ≡ m.state.store.tree → KeepsTable m After → After.state.table.holders ≡ m.state.table.holders → q.rooms ≡ p.rooms → q.actors ≡ p.actors → After.state.times ≡ q.times → q.mark ≡ p.mark → After.state.serial ≡ q.serial → Holds p room Said q (does Said q) → Step (moment_after m events)
  stays_so q reason told tree k holders rooms actors times mark serial h =
      let t : Turns n r r m After = turns_none n r m After at tree k in
      let same_rooms : (j : ℕ) → slice_get q.rooms j ≡ slice_get p.rooms j = λ j. ap (λ (l : List PlainRoom). slice_get l j) rooms in
      let kept = all_kept r r (λ path. refl) in
      let left : MirrorsRoom After n r room = room_so n r r m After t kept room room.name room.is_held room.truncs shows shows.name its_held (truncs_same t) in
      subst Step (refused_ends reason told).1
      (turned_takes n r r m After t kept p q room room there (same_rooms n ∙ there) (λ j other. same_rooms j) Hold1.sound me declared actor statement Said handle o has left refl actors times mark serial (holders ∙ o.none_hold) (takes_on Said q h))
    where
      truncs_same : Turns n r r m After → AreTruncsAt After n room.truncs
      truncs_same t = truncs_kept n r r m After t (λ path. refl) room.truncs shows.truncs

  -- ---- why it was refused

  answers_so : (reason : Refusal) → Hold1.event.reply ≡ Refused reason → Answers m.state me (Hold n) (Refused reason) Hold1.event.after
  answers_so reason told = subst (λ x. Answers m.state me (Hold n) x Hold1.event.after) told Hold1.answers

  -- it was checked, and nothing was done; or the store told, and a serial was drawn
  record WasDrawn (reason : Refusal) : Type 0 where
    tree : After.state.store.tree ≡ m.state.store.tree
    kept : KeepsTable m After
    holders : After.state.table.holders ≡ m.state.table.holders
    times : After.state.times ≡ m.state.times
    serial : After.state.serial ≡ m.state.serial + 1
    named : (host writer : ℕ) → reason ≡ refusal.Busy host writer → IsItem (item.OpenHost host writer)

  how : (reason : Refusal) → Hold1.event.reply ≡ Refused reason → ((reason ≡ refusal.IdsSpent) × IsSpent m × (Hold1.event.after ≡ m.state)) ⊎ WasDrawn reason
  how reason told = elim (match_cases (draw_check m.state n) (HoldsRoom me n m.state (Refused reason) Hold1.event.after) (λ x. Refuses x m.state (Refused reason) Hold1.event.after) (answers_so reason told)) as (λ _. ((reason ≡ refusal.IdsSpent) × IsSpent m × (Hold1.event.after ≡ m.state)) ⊎ WasDrawn reason) [
    | inr (x, check, refused_so) ↦
        let s = only_spent m o.sound n had x check in
        let same : reason ≡ x = (let e : Refused reason ≡ Refused x = refused_so.0 in cc) in
        inl (same ∙ s.0, s.1, refused_so.1)
    | inl (free, d) ↦
        let h : Holder = holding m.state me n in
        let x = not_held h m.state.table d.told reason Hold1.event.after.table d.outcome in
        let t = acts_told (hold_step n) m.state.store Hold1.event.after.store o.sound.shape.tree d.told o.sound.shape.told d.made in
        let stays = (remove_folder_told n openhosts o.sound.shape.tree d.told t.0 t.2).stays x.answered x.is x.other in
        let serial : Hold1.event.after.serial ≡ m.state.serial + 1 = ap (λ (y : State). y.serial) d.after in
        inr (record {
          tree = t.1 ∙ ap Some stays.0 ∙ sym o.sound.shape.told;
          kept = table_kept m Hold1.event (Hold n) Hold1.asked refl (ap (λ (y : Table). y.writers) x.same) (ap (λ (y : State). y.marks) d.after) (ap (λ (y : State). y.mount) d.after) (omega (arith, serial));
          holders = ap (λ (y : Table). y.holders) x.same;
          times = ap (λ (y : State). y.times) d.after;
          serial = serial;
          named = x.named;
        })
  ]

  spent_now : IsSpent m → is_spent p ≡ true
  spent_now is = let s = o.serial in let k : 2 ^ 32 - 1 ≤ p.serial = omega (arith, is, s) in grind (arith, nat_tests)

  unspent_now : After.state.serial ≡ m.state.serial + 1 → is_spent p ≡ false
  unspent_now serial = let fits = Hold1.sound.regular.serial_fits in let s = o.serial in let less : p.serial < 2 ^ 32 - 1 = omega (arith, fits, serial, s) in grind (arith, nat_tests)

  -- no serial was left
  spent : Hold1.event.reply ≡ Refused refusal.IdsSpent → IsSpent m → Hold1.event.after ≡ m.state → Step (moment_after m events)
  spent told is same =
      stays_so p refusal.IdsSpent told (ap (λ (s : State). s.store.tree) same)
      (table_kept m Hold1.event (Hold n) Hold1.asked refl (ap (λ (s : State). s.table.writers) same) (ap (λ (s : State). s.marks) same) (ap (λ (s : State). s.mount) same) (let e = ap (λ (s : State). s.serial) same in omega (arith, e)))
      (ap (λ (s : State). s.table.holders) same) refl refl (ap (λ (s : State). s.times) same ∙ o.times) refl (ap (λ (s : State). s.serial) same ∙ o.serial)
      (when (is_spent p) _ _ (spent_now is) (said_so refusal.IdsSpent told, refl))

  -- the room is held, or somebody has it open
  turned_away : (reason : Refusal) → Hold1.event.reply ≡ Refused reason → (d : WasDrawn reason) → ((room.is_held ≡ true) × (reason ≡ refusal.Held)) ⊎ ((room.is_held ≡ false) × ((nat_eq (length (open_writers room)) 0 ≡ false) × ((w : PlainWriter) × IsLeastOpen room w × (reason ≡ refusal.Busy w.host w.id)))) → Step (moment_after m events)
  turned_away reason told d (inl (held, is)) =
      stays_so (drawn p) reason told d.tree d.kept d.holders refl refl (d.times ∙ o.times) refl (d.serial ∙ ap (λ k. k + 1) o.serial)
      (unless (is_spent p) _ _ (unspent_now d.serial) (when room.is_held _ _ held (said_so reason told ∙ ap (λ x. Refusing (why_of x)) is, refl)))
  turned_away reason told d (inr (free, (some, (w, least, is)))) =
      stays_so (drawn p) reason told d.tree d.kept d.holders refl refl (d.times ∙ o.times) refl (d.serial ∙ ap (λ k. k + 1) o.serial)
      (unless (is_spent p) _ _ (unspent_now d.serial) (unless room.is_held _ _ free (unless (nat_eq (length (open_writers room)) 0) _ _ some (w, least, (said_so reason told ∙ ap (λ x. Refusing (why_of x)) is, refl)))))

  some_open : (w : PlainWriter) → IsLeastOpen room w → nat_eq (length (open_writers room)) 0 ≡ false
  some_open w least = some (open_writers room) least.0
    where
      some : (ws : List PlainWriter) → Any (λ (x : PlainWriter). x ≡ w) ws → nat_eq (length ws) 0 ≡ false
      some [] any = absurd (any_found (λ (x : PlainWriter). x ≡ w) [] any).1
      some (x ∷ ws) any = let more : length (x ∷ ws) ≡ suc (length ws) = refl in grind (arith, nat_tests)

  refused_now : (reason : Refusal) → Hold1.event.reply ≡ Refused reason → HasReason m.state me (Hold n) reason → Step (moment_after m events)
  refused_now reason told because = elim (how reason told) as (λ _. Step (moment_after m events)) [
    | inl (is, none, same) ↦ spent (told ∙ ap Refused is) none same
    | inr d ↦ elim because as (λ _. Step (moment_after m events)) [
      | inl check ↦ absurd (let s = only_spent m o.sound n had reason check in let full = s.1 in let fits = Hold1.sound.regular.serial_fits in let serial = d.serial in omega (arith, full, fits, serial))
      | inr (inl lacks) ↦ absurd (has_room m o.sound n had (lacks.1 o.sound.shape.tree o.sound.shape.told))
      | inr (inr (inl away)) ↦
          let l = away.1 o.sound.shape.tree o.sound.shape.told in
          turned_away reason told d (inl (flipped room.is_held (sym its_held ∙ lacking l), away.0))
      | inr (inr (inr busy)) ↦
          let l = busy.3 o.sound.shape.tree o.sound.shape.told in
          let w = least_open m o.sound n had r at room shows busy.0 busy.1 l.0 (d.named busy.0 busy.1 busy.2) l.1 in
          turned_away reason told d (inr (opened_so room.is_held (sym its_held ∙ listing l.1), (some_open w.0 w.1, (w.0, w.1, busy.2 ∙ (λ i. refusal.Busy (sym w.2 i) (sym w.3 i))))))
    ]
  ]
    where
      in_tree : slice_get o.sound.shape.tree.rooms n ≡ Some r
      in_tree = sym (ap (λ t. room_told t n) o.sound.shape.told) ∙ at

      lacking : LacksFolder o.sound.shape.tree n openhosts → has_folder r openhosts ≡ false
      lacking l = let both : Some l.room ≡ Some r = sym l.has_room ∙ in_tree in let one : l.room ≡ r = cc in subst (λ x. has_folder x openhosts ≡ false) one l.none

      listing : {names : List Name} → ListsFolder o.sound.shape.tree n openhosts names → has_folder r openhosts ≡ true
      listing l = let both : Some l.room ≡ Some r = sym l.has_room ∙ in_tree in let one : l.room ≡ r = cc in subst (λ x. has_folder x openhosts ≡ true) one l.there

  -- ---- the room is the caller's

  -- what the statement does then
  abbrev GoesOnWith : Type 0
  GoesOnWith = (holder : ℕ) (x : Moment) → IsSoundAt x → (h : HasToItself me n holder m x) → h.old ≡ r → ((outcome : Outcome) (q : Plain) → does outcome q (drawn p) → Takes me declared actor p statement outcome q) → room.is_held ≡ false → open_writers room ≡ [] → (rest : List Event) → IsLawful x.state rest → GoesWell me rest → AreBy me rest → Runs me (next holder) rest out → Step (moment_after x rest)

  pub holding_takes : GoesOnWith → Step (moment_after m events)
  holding_takes goes_on = elim Hold1.served as (λ _. Step (moment_after m events)) [
    | inr (reason, told, because) ↦ refused_now reason told because
    | inl (holder, told) ↦
        let h = hold_turns m o.sound me n holder Hold1.event o.none_hold Hold1.asked (subst (λ x. Answers m.state me (Hold n) x Hold1.event.after) told Hold1.answers) in
        let one : h.old ≡ r = (let both : Some h.old ≡ Some r = sym h.turns.was ∙ at in cc) in
        let free : room.is_held ≡ false = opened_so room.is_held (sym its_held ∙ subst (λ y. has_folder y openhosts ≡ true) one h.opened) in
        let none : open_writers room ≡ [] = nobody_open m o.sound n had r at room shows (subst (λ y. (file : Name) → file_at y (record { folder = openhosts; file = file }) ≡ None) one h.bare) in
        let empty : nat_eq (length (open_writers room)) 0 ≡ true = ap (λ (ws : List PlainWriter). nat_eq (length ws) 0) none in
        subst Step Hold1.ends
        (goes_on holder After Hold1.sound h one (λ outcome q d. takes_on outcome q (unless (is_spent p) _ _ (unspent_now h.serial) (unless room.is_held _ _ free (when (nat_eq (length (open_writers room)) 0) _ _ empty d)))) free none Hold1.rest Hold1.whole.2 Hold1.well Hold1.by
        (subst (λ x. Runs me (given (holder_in x) (failure x) next) Hold1.rest out) told Hold1.runs))
  ]
