-- A recovery of a room that lets writers in is a step of a plain machine, where nobody else calls and no dead writer is live elsewhere.
use Rattle.std.proofs.Common.{◌≡◌, not, ℕ, Bool, true, false, nat_eq, ◌&&◌, List, [], ◌∷◌, map, Option, Some, None, Result, refl, ap, ◌∙◌, inl, inr, subst, if◌then◌else◌}
use Rattle.std.specs.Prelude.{slice_get}
use Rattle.std.specs.List.{AllByRecursion}
use Rattle.plain_file.proofs.Facts.{All-Among, Among}
use Rattle.container_layout.specs.Paths.{openhosts}
use Rattle.script_lang.specs.declared.line.Outcome.{Outcome}
use Rattle.script_lang.specs.declared.line.Outcome.TheVariants.{Recovered as RecoveredLine}
use Rattle.script_lang.specs.declared.script.ActorDecl.{ActorDecl}
use Rattle.script_lang.specs.declared.script.Statement.TheVariants.{Recover}
use Rattle.store_api.specs.declared.tree.Room.{Room}
use Rattle.mount_model.specs.declared.call.Look.TheVariants.{List as ListFolder}
use Rattle.mount_model.specs.declared.reply.Refusal.TheVariants as refusal
use Rattle.mount_model.specs.declared.reply.Reply.{Reply}
use Rattle.mount_model.specs.declared.row.Row.{Row}
use Rattle.mount_model.specs.History.{AreBy, Event}
use Rattle.mount_model.specs.Paths.{Name}
use Rattle.mount_model.specs.Recovering.{alive_check, live_reason}
use Rattle.mount_model.specs.Table.{is_live, row_of}
use Rattle.mount_sound.specs.Owed.{IsLawful}
use Rattle.mount_model.specs.declared.stuck.Stuck.{Stuck}
use Rattle.mount_model.specs.FlowListed.{told_by}
use Rattle.mount_model.specs.FlowReplies.{Tries, is_no_folder}
use Rattle.mount_model.specs.Running.{Runs}
use Rattle.reader_laws.specs.Moments.{Moment, moment_after, next_moment}
use Rattle.reader_laws.proofs.Gathered.Facts.{sound_after}
use Rattle.outcomes.specs.Outcomes.{recover_outcome}
use Rattle.torn_tail.specs.declared.recovering.Recovered.{Recovered}
use Rattle.torn_tail.specs.Recovering.{entries_named, lists_open, mends_hold, nothing, recovers, recovers_listed}
use Rattle.trouble_laws.specs.Undamaged.{IsUndamaged}
use Rattle.writer_flow.specs.declared.handle.WriterHandle.{WriterHandle}
use Rattle.plain_machine.specs.Machine.{Plain, PlainActor, PlainRoom, PlainWriter}
use Rattle.plain_machine.specs.Becoming.{with_room}
use Rattle.plain_machine.specs.ByName.{count_told, dead, let_go, owned, without_dead}
use Rattle.plain_machine.specs.Cases.{When}
use Rattle.plain_machine.specs.Finding.{open_writers}
use Rattle.plain_machine.specs.Statements.{Takes}
use Rattle.plain_plays.specs.Mirrors.{Mirrors, MirrorsRoom, MirrorsWriter, is_live_in, room_then}
use Rattle.plain_plays.specs.Served.{GoesWell}
use Rattle.plain_plays.specs.Stepping.{HasActor, TakesStep}
use Rattle.plain_plays.proofs.PlainSteps.Entering.{IsContainerAt, not_marks}
use Rattle.plain_plays.proofs.PlainSteps.Steps.Alone.{First, first_call}
use Rattle.plain_plays.proofs.PlainSteps.Steps.Keeping.{unless}
use Rattle.plain_plays.proofs.PlainSteps.ByName.Entries.{Lists, Ordered, all_entries, entries_same, entry_of, open_listed}
use Rattle.plain_plays.proofs.PlainSteps.ByName.OpenWriters.{of_filter}
use Rattle.plain_plays.proofs.PlainSteps.Looks.Answered.{alike_next}
use Rattle.plain_plays.proofs.PlainSteps.Burying.Leaving.{Leaves, leaves_alike, leaves_both}
use Rattle.plain_plays.proofs.PlainSteps.Burying.Recovering.{IsFit, all_fit, recovers_end}
use Rattle.plain_plays.proofs.PlainSteps.Burying.Room.{among_kept, off_takes}

-- what the machine does with a room
abbrev pub RecoversRoom : Plain → ℕ → PlainRoom → Outcome → Plain → Type 0
RecoversRoom p number room outcome new =
    When room.is_held ((outcome ≡ RecoveredLine [] [] true) × (new ≡ with_room number (let_go room) p))
    ((outcome ≡ RecoveredLine (map count_told (dead room)) (map (λ (w : PlainWriter). w.id) (owned room)) false) × (new ≡ with_room number (without_dead room) p))

-- what follows the listing of a room's open writers
abbrev pub goes_on : ℕ → Reply → Tries Recovered
goes_on n reply = if is_no_folder reply then mends_hold n else recovers_listed n (told_by openhosts (λ names. entries_named names []) reply)

-- a live writer is found alive
live_so : (n : ℕ) (o : Option Row) → is_live_in n o ≡ true → live_reason o ≡ Some refusal.Alive
live_so n None e = absurd (cc)
live_so n (Some row) e = by (is_live row.stage) refl e
  where
    by : (b : Bool) → is_live row.stage ≡ b → (b && nat_eq row.room n) ≡ true → (if is_live row.stage then Some refusal.Alive else None) ≡ Some refusal.Alive
    by true is f = ap (λ b. if b then Some refusal.Alive else None) is
    by false is f = absurd (cc)

members : {X : Type 0} (P : X → Type 0) (xs : List X) → ((x : X) → Among x xs → P x) → AllByRecursion P xs
members P [] f = tt
members P (x ∷ xs) f = (f x (inl refl), members P xs (λ y a. f y (inr a)))

module _ (m : Moment) (me : ℕ) (p : Plain) (handle : Option WriterHandle) (actor : PlainActor) (declared : ActorDecl) (name : Name) (o : Mirrors m p) (has : HasActor m me p handle actor) (n : ℕ) (room : PlainRoom) (there : slice_get p.rooms n ≡ Some room) (r : Room) (at : room_then m n ≡ Some r) (shows : MirrorsRoom m n r room) (had : IsContainerAt n m) (let_in : room.is_held ≡ false)
    (gone : (w : PlainWriter) → Among w (dead room) → alive_check m.state w.id ≡ None) (takes_on : (outcome : Outcome) (q : Plain) → RecoversRoom p n room outcome q → Takes me declared actor p (Recover name) outcome q) where
  fits : AllByRecursion (IsFit n m) (open_writers room)
  fits = members (IsFit n m) (open_writers room) (λ w a.
      let x : MirrorsWriter m n w = All-Among (MirrorsWriter m n) room.writers w shows.writers (of_filter room.writers w a).0 in
      record {
        named = x.named;
        many = x.landed_is;
        lives = λ is. live_so n (row_of w.id m.state.table.writers) (x.owned ∙ is);
        dead_is = λ is. gone w (among_kept (λ (y : PlainWriter). not y.is_owned) (open_writers room) w a (ap not is));
      })

  -- The dead are buried, and the others told as alive.
  pub opens_takes : (events : List Event) (out : Result Recovered Stuck) → IsUndamaged out → IsLawful m.state events → GoesWell me events → AreBy me events → Runs me (lists_open n) events out → TakesStep m me declared actor p (Recover name) (recover_outcome out) (moment_after m events) handle
  opens_takes events out plain lawful well by runs =
      let c : First m me (Lists m me p o n room r at shows had let_in) (goes_on n) events out = first_call m me (Lists m me p o n room r at shows had let_in) (goes_on n) events out o.sound lawful well by runs in
      let shown = open_listed m me p o n room r at shows had let_in c.event.reply c.event.after c.answers c.served in
      let l = alike_next m o.sound n had c.event (c.whole.0, c.whole.1, tt) (ListFolder openhosts) c.asked in
      let next : Moment = next_moment m c.event in
      let last : Moment = moment_after next c.rest in
      let ws : List PlainWriter = open_writers room in
      let listed : Runs me (recovers_listed n (entries_named shown.names [])) c.rest out = subst (λ reply. Runs me (goes_on n reply) c.rest out) shown.told c.runs in
      let each : Runs me (recovers n (Ordered m me p o n room r at shows had let_in shown.names shown.are) nothing) c.rest out = subst (λ x. Runs me (recovers_listed n x) c.rest out) (all_entries m me p o n room r at shows had let_in shown.names shown.are).1 listed in
      let on : Runs me (recovers n (map entry_of ws) nothing) c.rest out = subst (λ es. Runs me (recovers n es nothing) c.rest out) (entries_same m me p o n room r at shows had let_in shown.names shown.are) each in
      let y : Leaves n [] r m next = leaves_alike n r m next at l.0 in
      let run = recovers_end n me ws nothing next y.new y.turns.now c.sound l.1 c.rest out plain c.whole.2 c.well c.by (all_fit n m next y.table y.landed_is ws fits) on in
      let all : Leaves n (map entry_of (dead room)) r m last = leaves_both n [] (map entry_of (dead room)) r m next last y run.1 in
      let line : recover_outcome out ≡ RecoveredLine (map count_told (dead room)) (map (λ (w : PlainWriter). w.id) (owned room)) false = ap recover_outcome run.0 in
      subst (λ x. TakesStep m me declared actor p (Recover name) (recover_outcome out) x handle) c.ends
      (off_takes n room r m last all shows p there (sound_after next c.rest c.whole.2 c.sound) (not_marks m o.sound n had) o me declared actor (Recover name) (recover_outcome out) handle has
      (takes_on (recover_outcome out) (with_room n (without_dead room) p) (unless room.is_held _ _ let_in (line, refl))))
