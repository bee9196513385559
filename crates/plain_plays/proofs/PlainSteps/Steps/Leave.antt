-- A close of an actor's writer is a step of a plain machine, where nobody else calls.
use Rattle.std.proofs.Common.{◌≡◌, ℕ, List, [], ◌∷◌, ◌++◌, length, Some, None, Result, Ok, Err, refl, sym, ap, ◌∙◌, inl, inr, subst, arith}
use Rattle.std.specs.Prelude.{is_some, slice_get}
use Rattle.script_lang.specs.declared.line.Outcome.TheVariants.{Closed}
use Rattle.script_lang.specs.declared.script.ActorDecl.{ActorDecl}
use Rattle.script_lang.specs.declared.script.Statement.TheVariants.{Close}
use Rattle.store_api.specs.declared.step.Answer.TheVariants as answer
use Rattle.store_api.specs.declared.store.Trouble.TheVariants as trouble
use Rattle.store_api.specs.declared.tree.Tree.{Tree}
use Rattle.store_laws.proofs.Facts.{acts_told, changed_room, remove_told}
use Rattle.mount_model.specs.declared.call.Ask.{Ask}
use Rattle.mount_model.specs.declared.call.Call.{Call}
use Rattle.mount_model.specs.declared.call.Call.TheVariants.{Exit, PutMeta}
use Rattle.mount_model.specs.declared.reply.Refusal.TheVariants as refusal
use Rattle.mount_model.specs.declared.reply.Reply.{Reply}
use Rattle.mount_model.specs.declared.reply.Reply.TheVariants.{Done, Fault}
use Rattle.mount_model.specs.declared.row.Row.{Row}
use Rattle.mount_model.specs.Entering.{next_id}
use Rattle.mount_model.specs.History.{Event}
use Rattle.mount_model.specs.Leaving.{exit_check, exit_outcome, exit_step}
use Rattle.mount_model.specs.Making.{MakesAct, Refuses, Told, UnlessRefused}
use Rattle.mount_model.specs.Paths.{open_path}
use Rattle.mount_model.specs.State.{State, Table, take_out}
use Rattle.mount_model.specs.Step.{Answers}
use Rattle.mount_model.specs.Table.{is_live, row_of, without_row, writer_of}
use Rattle.mount_model.proofs.Facts.{is_held, match_cases, row_of-without_row, row_of_id}
use Rattle.mount_sound.specs.Issued.{issued_after}
use Rattle.mount_sound.specs.Owed.{IsLawful}
use Rattle.mount_sound.proofs.Facts.{paths_differ}
use Rattle.mount_model.specs.declared.stuck.Stuck.{Stuck}
use Rattle.mount_model.specs.declared.stuck.Stuck.TheVariants as stuck
use Rattle.mount_model.specs.Running.{Runs}
use Rattle.mount_model.proofs.Flows.Facts.{runs_in_two}
use Rattle.reader_laws.specs.Bounds.{SparesIndex}
use Rattle.reader_laws.specs.Moments.{Dropping, IsNamed, IsSoundAt, Moment, file_in_room, file_then, file_told, issued_by, landed, moment_after, next_moment}
use Rattle.reader_laws.proofs.Gathered.Facts.{All-weaker, legal_first, legal_rest, moment-append, sound_after}
use Rattle.reader_laws.proofs.Gathered.Moments.Stepping.{lands_none_next}
use Rattle.outcomes.specs.Outcomes.{close_outcome}
use Rattle.writer_flow.specs.declared.handle.WriterHandle.{WriterHandle}
use Rattle.writer_flow.specs.declared.handle.WriterOut.{WriterOut}
use Rattle.writer_flow.specs.Closing.{after_sync, close_from, close_program, exits, if_left, if_put, puts_meta}
use Rattle.writer_flow.specs.Ending.{failed, gone_with}
use Rattle.writer_flow.specs.Handle.{closing_of}
use Rattle.writer_flow.specs.Syncing.{sync_program}
use Rattle.writer_laws.specs.Waiting.{IsOn}
use Rattle.writer_laws.proofs.Stops.{whole_answers}
use Rattle.plain_machine.specs.Machine.{Plain, PlainActor, PlainWriter}
use Rattle.plain_machine.specs.Becoming.{all_landed, room_with, with_actor, with_room}
use Rattle.plain_machine.specs.Writers.{left}
use Rattle.mount_model.specs.History.{AreBy}
use Rattle.plain_plays.specs.Mirrors.{Mirrors, MirrorsHandle, MirrorsWriter, is_live_in}
use Rattle.plain_plays.specs.Plainly.{dropping_of}
use Rattle.plain_plays.specs.Served.{GoesWell}
use Rattle.plain_plays.specs.Stepping.{HasActor, TakesStep}
use Rattle.plain_plays.proofs.PlainSteps.Steps.Alone.{IsSyncing, asked_only, by_first, by_rest, next, sync_asks}
use Rattle.plain_plays.proofs.PlainSteps.Steps.Keeping.{Own, its_own, mine_mirrors, on_own}
use Rattle.plain_plays.proofs.PlainSteps.Steps.Leaving.{HasIt, IsNoExit, IsNoWrite, LeavesOthers, clock_next, its_place, last_later, leaves_both, leaves_next, leaves_one, leaves_run, times_run}
use Rattle.plain_plays.proofs.PlainSteps.Steps.Others.{IsItsCall, IsPlaced, its}
use Rattle.plain_plays.proofs.PlainSteps.Steps.Owners.{handle_other, has_own}
use Rattle.plain_plays.proofs.PlainSteps.Plainly.{closes_plainly, syncs_plainly}
use Rattle.plain_plays.proofs.PlainSteps.Reaching.{ended, over_alone}
use Rattle.plain_plays.proofs.PlainSteps.Steps.Rooms.{machine_put, set_here, set_there}
use Rattle.plain_plays.proofs.PlainSteps.Serving.{well_first}

-- ---- an exit that was made

exit_made : (row : Row) (table : Table) (told : Told) → Done ≡ (exit_outcome row table told).reply → (told ≡ Ok answer.Made) × ((exit_outcome row table told).table ≡ take_out row.id table)
exit_made row table (Ok answer.Made) e = (refl, refl)
exit_made row table (Ok answer.NoRoom) e = absurd (cc)
exit_made row table (Ok answer.NoFolder) e = absurd (cc)
exit_made row table (Ok other) e = absurd (cc)
exit_made row table (Err trouble.Fault) e = absurd (cc)
exit_made row table (Err trouble.NoMemory) e = absurd (cc)

pub record Exited (old : State) (w : ℕ) (new : State) : Type 0 where
  pub row : Row
  pub held : row_of w old.table.writers ≡ Some row
  pub makes : MakesAct (exit_step row) (exit_outcome row old.table) old Done new
  pub told : makes.told ≡ Ok answer.Made
  pub table : new.table ≡ take_out row.id old.table

exited : (old : State) (me w : ℕ) (new : State) → Answers old me (Exit w) Done new → Exited old w new
exited old me w new a = elim (match_cases (writer_of me is_live w old.table.writers) (Refuses refusal.NotOpen old Done new) (λ (r : Row). UnlessRefused (exit_check r) old Done new (MakesAct (exit_step r) (exit_outcome r old.table) old Done new)) a) as (λ _. Exited old w new) [
  | inl (none, refused) ↦ absurd (let other = refused.0 in cc)
  | inr (row, some, u) ↦ elim (match_cases (exit_check row) (MakesAct (exit_step row) (exit_outcome row old.table) old Done new) (λ why. Refuses why old Done new) u) as (λ _. Exited old w new) [
    | inr (why, check, refused) ↦ absurd (let other = refused.0 in cc)
    | inl (none, made) ↦
        let x = exit_made row old.table made.told made.answered in
        record { row = row; held = (is_held me is_live w old.table.writers row some).found; makes = made; told = x.0; table = ap (λ (s : State). s.table) made.after ∙ x.1 }
  ]
]

module _ (m : Moment) (sound : IsSoundAt m) (me : ℕ) (d : Dropping) (new : Moment) (placed : IsPlaced d m.state.table) (a : Answers m.state me (Exit d.writer) Done new.state) where
  E : Exited m.state d.writer new.state
  E = exited m.state me d.writer new.state a

  same_place : its E.row.room E.row.host E.row.id ≡ d
  same_place = placed E.row E.held

  -- the writer is no longer in the table
  pub none_left : row_of d.writer new.state.table.writers ≡ None
  none_left =
      let id : E.row.id ≡ d.writer = row_of_id d.writer m.state.table.writers E.row E.held in
      ap (λ (t : Table). row_of d.writer t.writers) E.table ∙ ap (λ k. row_of d.writer (without_row k m.state.table.writers)) id ∙ row_of-without_row d.writer m.state.table.writers sound.regular.ascending

  entry_gone : file_then new E.row.room (open_path E.row.host E.row.id) ≡ None
  entry_gone =
      let t = acts_told (exit_step E.row) m.state.store new.state.store sound.shape.tree E.makes.told sound.shape.told E.makes.made in
      let c = (remove_told E.row.room (open_path E.row.host E.row.id) sound.shape.tree E.makes.told t.0 t.2).done E.told in
      ap (λ o. file_told o E.row.room (open_path E.row.host E.row.id)) t.1
      ∙ ap (λ o. file_in_room o (open_path E.row.host E.row.id)) (ap (λ (x : Tree). slice_get x.rooms E.row.room) c.gives ∙ changed_room sound.shape.tree E.row.room c.room c.new c.has_room)
      ∙ c.gone (paths_differ m.issued m.state sound me E.row.room c.room c.has_room)

  -- and its entry is gone
  pub none_open : file_then new d.room (open_path d.host d.writer) ≡ None
  none_open = subst (λ (x : Dropping). file_then new x.room (open_path x.host x.writer) ≡ None) same_place entry_gone

-- ---- how a close goes on behind its sync

after_put : (me : ℕ) (h : WriterHandle) (reply : Reply) (n : ℕ) (rest : List Event) (out : WriterOut) → Runs me (if_put h reply) rest out → out ≡ gone_with (Ok n) → (reply ≡ Done) × Runs me (exits h) rest out
after_put me h Done n rest out runs is = (refl, runs)
after_put me h reply n rest out runs is = absurd (let clash : Some h ≡ None = ap (λ (x : WriterOut). x.handle) (ended me (failed h reply) rest out runs ∙ is) in cc)

after_exit : (me : ℕ) (h : WriterHandle) (reply : Reply) (n : ℕ) (rest : List Event) (out : WriterOut) → AreBy me rest → Runs me (if_left h reply) rest out → out ≡ gone_with (Ok n) → (reply ≡ Done) × (rest ≡ [])
after_exit me h Done n rest out by runs is = (refl, over_alone me (gone_with (Ok h.landed)) rest out by runs)
after_exit me h Fault n rest out by runs is = absurd (let clash : ◌≡◌ {A = Result ℕ Stuck} (Err stuck.Fault) (Ok n) = ap (λ (x : WriterOut). x.result) (ended me (gone_with (Err stuck.Fault)) rest out runs ∙ is) in cc)
after_exit me h reply n rest out by runs is = absurd (let clash : Some h ≡ None = ap (λ (x : WriterOut). x.handle) (ended me (failed h reply) rest out runs ∙ is) in cc)

-- ---- what the two calls leave

module _ (m : Moment) (me number : ℕ) (w : PlainWriter) where
  abbrev D : Dropping
  D = dropping_of number w

  -- a call on the writer that neither writes nor flushes leaves what it issued, and what has landed
  still : (e : Event) (rest : List Event) (q : Call) → IsNamed D → IsSoundAt m → IsLawful m.state (e ∷ rest) → e.ask.call ≡ q → SparesIndex q D → issued_after m.issued m.state q e.reply number w.id ≡ issued_by m D → (landed (next_moment m e) D ≡ landed m D) × (issued_by (next_moment m e) D ≡ issued_by m D)
  still e rest q named sound lawful is spares same = (
    lands_none_next m e rest D named lawful sound (subst (λ c. SparesIndex c D) (sym is) spares),
    subst (λ c. issued_after m.issued m.state c e.reply number w.id ≡ issued_by m D) (sym is) same,
  )

module _ (m : Moment) (me : ℕ) (p : Plain) (handle : WriterHandle) (actor : PlainActor) (o : Mirrors m p) (has : HasActor m me p (Some handle) actor) (declared : ActorDecl) (events : List Event) (out : WriterOut) (lawful : IsLawful m.state events) (well : GoesWell me events) (by : AreBy me events) (runs : Runs me (close_program handle) events out) where
  abbrev It : Own m me p handle actor
  It = its_own m me p handle actor has

  abbrev Number : ℕ
  Number = It.own.room

  abbrev Its : Dropping
  Its = dropping_of Number It.w

  -- the writer has left: the moment then, and what all of the close left of others
  record HasLeft (last : Moment) : Type 0 where
    leaves : LeavesOthers Its m last
    now : MirrorsWriter last Number (left (all_landed It.w))
    serial : last.state.serial ≡ m.state.serial
    times : last.state.times ≡ m.state.times

  named : IsNamed Its
  named = (mine_mirrors m me p handle actor o has).named

  leaving : (mid : Moment) (h : WriterHandle) (rest : List Event) → LeavesOthers Its m mid → HasIt me Its mid.state → IsSoundAt mid → IsLawful mid.state rest → AreBy me rest → mid.state.serial ≡ m.state.serial → mid.state.times ≡ m.state.times → landed mid Its ≡ length It.w.issued → issued_by mid Its ≡ It.w.issued → h.writer ≡ It.w.id → out ≡ gone_with (Ok (length It.w.issued)) → Runs me (puts_meta h) rest out → HasLeft (moment_after mid rest)
  leaving mid h rest others its_own sound lawful_rest by_all serial times landed_is issued_is is ends on =
      let a = next me (PutMeta h.writer) (if_put (closing_of h)) rest out by_all on in
      let put = after_put me (closing_of h) a.event.reply (length It.w.issued) a.rest out a.runs ends in
      let b = next me (Exit h.writer) (if_left (closing_of h)) a.rest out a.by put.1 in
      let exit = after_exit me (closing_of h) b.event.reply (length It.w.issued) b.rest out b.by b.runs ends in
      let are : rest ≡ a.event ∷ b.event ∷ [] = a.are ∙ ap (λ l. a.event ∷ l) (b.are ∙ ap (λ l. b.event ∷ l) exit.1) in
      let whole : IsLawful mid.state (a.event ∷ b.event ∷ []) = subst (IsLawful mid.state) are lawful_rest in
      let put_is : a.event.ask.call ≡ PutMeta It.w.id = ap (λ (x : Ask). x.call) a.asked ∙ ap PutMeta is in
      let exit_is : b.event.ask.call ≡ Exit It.w.id = ap (λ (x : Ask). x.call) b.asked ∙ ap Exit is in
      let one : Moment = next_moment mid a.event in
      let two : Moment = next_moment one b.event in
      let sound_one : IsSoundAt one = sound_after mid (a.event ∷ []) (whole.0, whole.1, tt) sound in
      let sound_two : IsSoundAt two = sound_after one (b.event ∷ []) whole.2 sound_one in
      let l1 = leaves_one mid a.event (b.event ∷ []) me Its named sound whole its_own (ap (λ (x : Ask). x.stop) a.asked) (subst (IsOn It.w.id) (sym put_is) refl) (subst IsNoExit (sym put_is) tt) in
      let answers : Answers one.state me (Exit It.w.id) Done two.state =
      subst (λ r. Answers one.state me (Exit It.w.id) r two.state) exit.0 (subst (λ c. Answers one.state me c b.event.reply two.state) exit_is (subst (λ n. Answers one.state n b.event.ask.call b.event.reply two.state) (mine b.event (subst (AreBy me) are by_all).1.0) (whole_answers one.state b.event.caller b.event.ask b.event.reply two.state (ap (λ (x : Ask). x.stop) b.asked) whole.2.1))) in
      let gone : row_of It.w.id two.state.table.writers ≡ None = none_left one sound_one me Its two (its_place me Its one.state l1.its_own) answers in
      let l2 = leaves_next one b.event [] Its sound_one whole.2 (ap (λ (x : Ask). x.stop) b.asked) (subst (IsItsCall (next_id one.state) Its) (sym exit_is) refl) named (its_place me Its one.state l1.its_own) (λ row held. absurd (let clash : Some row ≡ None = sym held ∙ gone in cc)) in
      let s1 = still mid me Number It.w a.event (b.event ∷ []) (PutMeta It.w.id) named sound whole put_is tt refl in
      let s2 = still one me Number It.w b.event [] (Exit It.w.id) named sound_one whole.2 exit_is tt refl in
      let c1 = clock_next mid a.event (b.event ∷ []) It.w.id whole (ap (λ (x : Ask). x.stop) a.asked) (subst (IsOn It.w.id) (sym put_is) refl) in
      let c2 = clock_next one b.event [] It.w.id whole.2 (ap (λ (x : Ask). x.stop) b.asked) (subst (IsOn It.w.id) (sym exit_is) refl) in
      let all : LeavesOthers Its m two = leaves_both Its m one two (leaves_both Its m mid one others l1.others) l2 in
      let drawn = last_later Its m two all in
      let mine_then = mine_mirrors m me p handle actor o has in
      subst (λ l. HasLeft (moment_after mid l)) (sym are) (record {
        leaves = all;
        now = record {
          named = named;
          drawn = omega (arith, drawn, mine_then.drawn);
          issued = s2.1 ∙ s1.1 ∙ issued_is;
          landed_is = s2.0 ∙ s1.0 ∙ landed_is;
          opens = ap is_some (none_open one sound_one me Its two (its_place me Its one.state l1.its_own) answers);
          owned = ap (is_live_in Number) gone;
        };
        serial = c2.0 ∙ c1.0 ∙ serial;
        times = c2.1 (subst IsNoWrite (sym exit_is) tt) ∙ c1.1 (subst IsNoWrite (sym put_is) tt) ∙ times;
      })
    where
      mine : (e : Event) → e.caller ≡ me → e.caller ≡ me
      mine e same = same

  -- A close ends well, and its writer has left.
  pub close_takes : TakesStep m me declared actor p Close (close_outcome out.result) (moment_after m events) out.handle
  close_takes =
      let w : PlainWriter = It.w in
      let v : PlainWriter = left (all_landed w) in
      let q : Plain = with_actor me (record actor { writer = None }) (with_room Number (room_with v It.room) p) in
      let c = closes_plainly me Number w m handle events out lawful well It.mirrors runs in
      let x = runs_in_two me (sync_program handle) after_sync events out (subst (λ b. Runs me (close_from b handle) events out) It.mirrors.fresh runs) in
      let whole : IsLawful m.state (x.first ++ x.rest) = subst (IsLawful m.state) x.all lawful in
      let first : IsLawful m.state x.first = legal_first m x.first x.rest whole in
      let rest = legal_rest m x.first x.rest whole in
      let by_all : AreBy me (x.first ++ x.rest) = subst (AreBy me) x.all by in
      let by_sync : AreBy me x.first = by_first me x.first x.rest by_all in
      let went : GoesWell me (x.first ++ x.rest) = subst (GoesWell me) x.all well in
      let k = syncs_plainly me Number w m handle x.first x.value first (well_first me x.first x.rest went) It.mirrors x.runs in
      let mid : Moment = moment_after m x.first in
      let calls = asked_only (IsSyncing w.id) me x.first (sync_program handle) x.value (sync_asks w.id handle It.mirrors.writer) by_sync x.runs in
      let l = leaves_run x.first m me Its named o.sound first (has_own me Number handle w m It.mirrors) (All-weaker _ _ x.first (λ e y. (y.0, y.1.0, y.1.1)) calls) in
      let times = times_run x.first m w.id first (All-weaker _ _ x.first (λ e y. (y.0, y.1.0, y.1.2)) calls) in
      let left_so = leaving mid k.handle x.rest l.others l.its_own (sound_after m x.first first o.sound) rest (by_rest me x.first x.rest by_all) l.serial times k.mirrors.landed_is k.mirrors.issued k.mirrors.writer c.is (subst (λ (y : WriterOut). Runs me (after_sync y) x.rest out) k.is x.then_runs) in
      let same : moment_after mid x.rest ≡ moment_after m events = sym (moment-append m x.first x.rest) ∙ sym (ap (moment_after m) x.all) in
      let e : HasLeft (moment_after m events) = subst HasLeft same left_so in
      let said : close_outcome out.result ≡ Closed (length w.issued) = ap (λ (y : WriterOut). close_outcome y.result) c.is in
      record {
        new = q;
        takes = on_own actor It.own p (close_outcome out.result) q (λ y r z. (close_outcome out.result ≡ Closed (length z.issued)) × (q ≡ with_actor me (record actor { writer = None }) (with_room y.room (room_with (left (all_landed z)) r) p))) It.room w It.is It.there It.owned (said, refl);
        mirrors = machine_put m (moment_after m events) Its e.leaves w v refl refl refl e.now p q It.room o It.there It.found (sound_after m events lawful o.sound) refl (e.times ∙ o.times) refl (e.serial ∙ o.serial);
        left = record actor { writer = None };
        its_actor = record {
          there = set_here p.actors me actor (record actor { writer = None }) has.there;
          its_own = subst (λ h. MirrorsHandle (moment_after m events) me q h None) (sym (ap (λ (y : WriterOut). y.handle) c.is)) tt;
        };
        reader = refl;
        others = λ other apart. set_there p.actors me other (record actor { writer = None }) apart;
        handles = λ other h own apart y. handle_other p q Number It.room w v It.there It.found refl refl m events me other handle h own lawful by apart It.mirrors y;
      }
