-- A recovery of a room that is held lets it go, as a plain machine does, where nobody else calls. One in which no writer is dead is as it was.
use Rattle.std.proofs.Common.{◌≡◌, ◌⊎◌, nat_eq, ℕ, Bool, true, false, not, List, [], Option, Some, None, Result, Ok, Err, refl, sym, ap, ◌∙◌, inl, inr, subst, arith, if◌then◌else◌}
use Rattle.std.specs.Prelude.{slice_get}
use Rattle.std.proofs.lemmas.Bool.Decides.{nat_tests}
use Rattle.plfs_types.specs.declared.names.Path.{Path}
use Rattle.container_layout.specs.Paths.{openhosts}
use Rattle.script_lang.specs.declared.line.Outcome.{Outcome}
use Rattle.script_lang.specs.declared.line.Outcome.TheVariants.{Recovered as RecoveredLine}
use Rattle.script_lang.specs.declared.script.ActorDecl.{ActorDecl}
use Rattle.script_lang.specs.declared.script.Statement.TheVariants.{Recover}
use Rattle.store_api.specs.declared.step.Answer.TheVariants as answer
use Rattle.store_api.specs.declared.store.Trouble.TheVariants as trouble
use Rattle.store_api.specs.declared.tree.Room.{Room}
use Rattle.store_api.specs.Room.{has_folder}
use Rattle.store_laws.specs.Changes.{FolderMade}
use Rattle.store_laws.specs.Files.{file_at}
use Rattle.store_laws.specs.There.{ListsFolder}
use Rattle.store_laws.proofs.Facts.{acts_told, make_folder_told}
use Rattle.mount_model.specs.declared.call.Call.TheVariants.{Look, MendHold}
use Rattle.mount_model.specs.declared.call.Look.TheVariants.{List as ListFolder}
use Rattle.mount_model.specs.declared.reply.Refusal.{Refusal}
use Rattle.mount_model.specs.declared.reply.Refusal.TheVariants as refusal
use Rattle.mount_model.specs.declared.reply.Reply.{Reply}
use Rattle.mount_model.specs.declared.reply.Reply.TheVariants.{Looked, Mended}
use Rattle.mount_model.specs.History.{AreBy, Event}
use Rattle.mount_model.specs.Making.{MakesAct, Refuses, Told, or_reason}
use Rattle.mount_model.specs.Paths.{Name}
use Rattle.mount_model.specs.Recovering.{held_reason, mend_hold_check, mend_hold_outcome, mend_hold_step}
use Rattle.mount_model.specs.State.{State, Table}
use Rattle.mount_model.specs.Step.{Answers}
use Rattle.mount_model.proofs.Facts.{match_cases}
use Rattle.mount_sound.specs.Owed.{IsLawful}
use Rattle.mount_model.specs.Program.{done}
use Rattle.mount_model.specs.declared.stuck.Stuck.{Stuck}
use Rattle.mount_model.specs.Running.{Runs}
use Rattle.reader_laws.specs.Moments.{IsSoundAt, Moment, moment_after, next_moment}
use Rattle.recovery_laws.proofs.Holds.Facts.{folder_listed}
use Rattle.outcomes.specs.Outcomes.{recover_outcome}
use Rattle.torn_tail.specs.declared.recovering.Recovered.{Recovered}
use Rattle.torn_tail.specs.Recovering.{hold_mended, lists_open, mends_hold}
use Rattle.writer_flow.specs.declared.handle.WriterHandle.{WriterHandle}
use Rattle.plain_machine.specs.Machine.{Plain, PlainActor, PlainRoom}
use Rattle.plain_machine.specs.Becoming.{with_room}
use Rattle.plain_machine.specs.ByName.{let_go}
use Rattle.plain_machine.specs.Statements.{Takes}
use Rattle.plain_plays.specs.Mirrors.{Mirrors, MirrorsRoom, room_then, room_told}
use Rattle.plain_plays.specs.Served.{GoesWell}
use Rattle.plain_plays.specs.Stepping.{HasActor, TakesStep}
use Rattle.plain_plays.proofs.PlainSteps.Entering.{IsContainerAt, has_room, not_marks}
use Rattle.plain_plays.proofs.PlainSteps.Reaching.{IsServed, ended, over_alone}
use Rattle.plain_plays.proofs.PlainSteps.Steps.Alone.{First, first_call}
use Rattle.plain_plays.proofs.PlainSteps.Steps.Keeping.{when}
use Rattle.plain_plays.proofs.PlainSteps.Steps.Owners.{its_room}
use Rattle.plain_plays.proofs.PlainSteps.Steps.Rooms.{set_here, set_there}
use Rattle.plain_plays.proofs.PlainSteps.ByName.Found.{step_later}
use Rattle.plain_plays.proofs.PlainSteps.ByName.Holding.{table_kept}
use Rattle.plain_plays.proofs.PlainSteps.ByName.LetGo.{folder_files}
use Rattle.plain_plays.proofs.PlainSteps.ByName.Looking.{handle_alike, machine_alike}
use Rattle.plain_plays.proofs.PlainSteps.Burying.Statement.{RecoversRoom, goes_on}
use Rattle.plain_plays.proofs.PlainSteps.ByName.Turning.{Turns, all_kept, room_so, truncs_kept, turned_takes, turns_so}
use Rattle.plain_plays.proofs.PlainSteps.Looks.Answered.{alike_next, unchecked}

-- ---- the folder was made again

mended_told : (table : Table) (told : Told) (made : Bool) → Mended made ≡ (mend_hold_outcome table told).reply → (((told ≡ Ok answer.Made) × (made ≡ true)) ⊎ ((k : ℕ) × (told ≡ Ok (answer.Old k)))) × ((mend_hold_outcome table told).table ≡ table)
mended_told table (Ok answer.Made) made e = (inl (refl, (let same : made ≡ true = cc in same)), refl)
mended_told table (Ok (answer.Old k)) made e = (inr (k, refl), refl)
mended_told table (Ok answer.NoRoom) made e = absurd (cc)
mended_told table (Ok answer.NoFolder) made e = absurd (cc)
mended_told table (Ok other) made e = absurd (cc)
mended_told table (Err trouble.Fault) made e = absurd (cc)
mended_told table (Err trouble.NoMemory) made e = absurd (cc)

-- what the folder of open writers shows where it isn't there
none_listed : (m : Moment) (s : IsSoundAt m) (n : ℕ) (had : IsContainerAt n m) (r : Room) → room_then m n ≡ Some r → has_folder r openhosts ≡ false → (me : ℕ) (reply : Reply) (after : State) → Answers m.state me (Look n (ListFolder openhosts)) reply after → IsServed me m.state (Look n (ListFolder openhosts)) reply → reply ≡ Looked answer.NoFolder
none_listed m s n had r at shut me reply after a served = elim served as (λ _. reply ≡ Looked answer.NoFolder) [
  | inr (why, told, reason) ↦ absurd (elim reason as (λ _. ⊥) [
    | inl check ↦ unchecked m s n had why check
    | inr lacks ↦ has_room m s n had (lacks.1 s.shape.tree s.shape.told)
  ])
  | inl (found, may, told) ↦ elim may as (λ _. reply ≡ Looked answer.NoFolder) [
    | inr none ↦ told ∙ ap Looked none
    | inl (names, is) ↦
        let shown : reply ≡ Looked (answer.Names names) = told ∙ ap Looked is in
        let l : ListsFolder s.shape.tree n openhosts names = folder_listed m.state s.shape.tree me n openhosts names after s.shape.told (record { does = subst (λ y. Answers m.state me (Look n (ListFolder openhosts)) y after) shown a }) in
        let one : l.room ≡ r = (let both : Some l.room ≡ Some r = sym l.has_room ∙ sym (ap (λ t. room_told t n) s.shape.told) ∙ at in cc) in
        absurd (let clash : true ≡ false = sym l.there ∙ ap (λ x. has_folder x openhosts) one ∙ shut in cc)
  ]
]

module _ (m : Moment) (me : ℕ) (p : Plain) (handle : Option WriterHandle) (actor : PlainActor) (declared : ActorDecl) (name : Name) (o : Mirrors m p) (has : HasActor m me p handle actor) (n : ℕ) (room : PlainRoom) (there : slice_get p.rooms n ≡ Some room) (r : Room) (at : room_then m n ≡ Some r) (shows : MirrorsRoom m n r room) (had : IsContainerAt n m) (held : room.is_held ≡ true)
    (takes_on : (outcome : Outcome) (q : Plain) → RecoversRoom p n room outcome q → Takes me declared actor p (Recover name) outcome q) where
  shut : has_folder r openhosts ≡ false
  shut = shows.held (not_marks m o.sound n had) ∙ ap not held

  -- nobody holds it
  free : (why : Refusal) → mend_hold_check m.state n ≡ Some why → ⊥
  free why check =
      let apart : nat_eq n m.state.marks ≡ false = let other : n ≡ m.state.marks → ⊥ = not_marks m o.sound n had in grind (arith, nat_tests) in
      let clash : None ≡ Some why = sym (ap (λ b. or_reason (if b then Some refusal.NoRoom else None) (held_reason n m.state.table.holders)) apart ∙ ap (held_reason n) o.none_hold) ∙ check in
      (let bad : None ≡ Some why = clash in cc)

  abbrev Step : Result Recovered Stuck → Moment → Type 0
  Step out last = TakesStep m me declared actor p (Recover name) (recover_outcome out) last handle

  module _ (events : List Event) (out : Result Recovered Stuck) (lawful : IsLawful m.state events) (well : GoesWell me events) (by : AreBy me events) (runs : Runs me (mends_hold n) events out) where
    abbrev Call1 : First m me (MendHold n) (λ reply. done (hold_mended reply)) events out
    Call1 = first_call m me (MendHold n) (λ reply. done (hold_mended reply)) events out o.sound lawful well by runs

    abbrev Next : Moment
    Next = next_moment m Call1.event

    mended_so : (made : Bool) → Call1.event.reply ≡ Mended made → Step out (moment_after m events)
    mended_so made told =
        let a = subst (λ x. Answers m.state me (MendHold n) x Call1.event.after) told Call1.answers in
        let on = subst (λ x. Runs me (done (hold_mended x)) Call1.rest out) told Call1.runs in
        let is : Ok (record { buried = []; alive = []; hold = made }) ≡ out = ended me (Ok (record { buried = []; alive = []; hold = made })) Call1.rest out on in
        let same : Next ≡ moment_after m events = ap (moment_after Next) (sym (over_alone me (Ok (record { buried = []; alive = []; hold = made })) Call1.rest out Call1.by on)) ∙ Call1.ends in
        elim (match_cases (mend_hold_check m.state n) (MakesAct (mend_hold_step n) (mend_hold_outcome m.state.table) m.state (Mended made) Call1.event.after) (λ why. Refuses why m.state (Mended made) Call1.event.after) a) as (λ _. Step out (moment_after m events)) [
          | inr (why, some, refused) ↦ absurd (free why some)
          | inl (none, does) ↦
              let t = acts_told (mend_hold_step n) m.state.store Call1.event.after.store o.sound.shape.tree does.told o.sound.shape.told does.made in
              let k = mended_told m.state.table does.told made does.answered in
              let folder = make_folder_told n openhosts o.sound.shape.tree does.told t.0 t.2 in
              let in_tree : slice_get o.sound.shape.tree.rooms n ≡ Some r = sym (ap (λ x. room_told x n) o.sound.shape.told) ∙ at in
              let fresh : (does.told ≡ Ok answer.Made) × (made ≡ true) = elim k.0 as (λ _. (does.told ≡ Ok answer.Made) × (made ≡ true)) [
                | inl both ↦ both
                | inr (j, old) ↦ absurd (let w = (folder.stays (answer.Old j) old (λ clash. cc)).1.1 in let one : w.room ≡ r = (let two : Some w.room ≡ Some r = sym w.has_room ∙ in_tree in cc) in let clash : true ≡ false = sym w.there ∙ ap (λ y. has_folder y openhosts) one ∙ shut in cc)
              ] in
              let c : FolderMade o.sound.shape.tree n openhosts t.0 = folder.done fresh.0 in
              let one : c.room ≡ r = (let two : Some c.room ≡ Some r = sym c.has_room ∙ in_tree in cc) in
              let table : Call1.event.after.table ≡ m.state.table = ap (λ (s : State). s.table) does.after ∙ k.1 in
              let serial : Call1.event.after.serial ≡ m.state.serial = ap (λ (s : State). s.serial) does.after in
              let turns : Turns n r c.new m Next = turns_so n r c.new m Next o.sound.shape.tree t.0 o.sound.shape.told t.1 in_tree c.gives
              (table_kept m Call1.event (MendHold n) Call1.asked refl (ap (λ (x : Table). x.writers) table) (ap (λ (s : State). s.marks) does.after) (ap (λ (s : State). s.mount) does.after) (omega (arith, serial))) in
              let files : (path : Path) → file_at c.new path ≡ file_at r path = λ path. folder_files c.room c.new openhosts c.others path ∙ ap (λ x. file_at x path) one in
              let kept = all_kept r c.new files in
              let named : c.new.name ≡ room.name = c.others.name ∙ ap (λ (x : Room). x.name) one ∙ shows.name in
              let now : MirrorsRoom Next n c.new (let_go room) = room_so n r c.new m Next turns kept room room.name false room.truncs shows named c.now (truncs_kept n r c.new m Next turns files room.truncs shows.truncs) in
              let q : Plain = with_room n (let_go room) p in
              let line : recover_outcome (Ok (record { buried = []; alive = []; hold = made })) ≡ RecoveredLine [] [] true = ap (λ b. RecoveredLine [] [] b) fresh.1 in
              subst (Step out) same (subst (λ x. Step x Next) is
              (turned_takes n r c.new m Next turns kept p q room (let_go room) there (set_here p.rooms n room (let_go room) there) (λ j other. set_there p.rooms n j (let_go room) other) Call1.sound me declared actor (Recover name) (recover_outcome (Ok (record { buried = []; alive = []; hold = made }))) handle o has now refl refl
              (ap (λ (s : State). s.times) does.after ∙ o.times) refl (serial ∙ o.serial) (ap (λ (x : Table). x.holders) table ∙ o.none_hold)
              (takes_on (recover_outcome (Ok (record { buried = []; alive = []; hold = made }))) q (when room.is_held _ _ held (line, refl)))))
        ]

    pub mends_take : Step out (moment_after m events)
    mends_take = elim Call1.served as (λ _. Step out (moment_after m events)) [
      | inl (made, told) ↦ mended_so made told
      | inr (why, told, reason) ↦ absurd (elim reason as (λ _. ⊥) [
        | inl check ↦ free why check
        | inr lacks ↦ has_room m o.sound n had (lacks.1 o.sound.shape.tree o.sound.shape.told)
      ])
    ]

-- who lists the open writers of a held room lets it go
pub held_takes : (m : Moment) (me : ℕ) (p : Plain) (handle : Option WriterHandle) (actor : PlainActor) (declared : ActorDecl) (name : Name) (o : Mirrors m p) (has : HasActor m me p handle actor) (n : ℕ) (room : PlainRoom) (there : slice_get p.rooms n ≡ Some room) (r : Room) (at : room_then m n ≡ Some r) (shows : MirrorsRoom m n r room) (had : IsContainerAt n m) (held : room.is_held ≡ true)
    (takes_on : (outcome : Outcome) (q : Plain) → RecoversRoom p n room outcome q → Takes me declared actor p (Recover name) outcome q) (events : List Event) (out : Result Recovered Stuck) → IsLawful m.state events → GoesWell me events → AreBy me events → Runs me (lists_open n) events out
    → TakesStep m me declared actor p (Recover name) (recover_outcome out) (moment_after m events) handle
held_takes m me p handle actor declared name o has n room there r at shows had held takes_on events out lawful well by runs =
    let closed : has_folder r openhosts ≡ false = shows.held (not_marks m o.sound n had) ∙ ap not held in
    let c = first_call m me (Look n (ListFolder openhosts)) (goes_on n) events out o.sound lawful well by runs in
    let shown = none_listed m o.sound n had r at closed me c.event.reply c.event.after c.answers c.served in
    let next : Moment = next_moment m c.event in
    let l = alike_next m o.sound n had c.event (c.whole.0, c.whole.1, tt) (ListFolder openhosts) c.asked in
    let mirrors : Mirrors next p = machine_alike m next l.0 c.sound p o in
    let has_then : HasActor next me p handle actor = record { there = has.there; its_own = handle_alike m next l.0 c.sound p me handle actor.writer has.its_own } in
    let room_now = its_room next p n room mirrors there in
    subst (λ last. TakesStep m me declared actor p (Recover name) (recover_outcome out) last handle) c.ends
    (step_later m next (moment_after next c.rest) me declared actor p (Recover name) (recover_outcome out) handle l.0 c.sound
    (mends_take next me p handle actor declared name mirrors has_then n room there room_now.0 room_now.1 room_now.2 l.1 held takes_on c.rest out c.whole.2 c.well c.by (subst (λ reply. Runs me (goes_on n reply) c.rest out) shown c.runs)))
