-- A writer that its actor has open stays open in the table, whoever calls, until the actor closes it or is stopped.
use Rattle.std.proofs.Common.{◌≡◌, ◌⊎◌, inl, inr, ℕ, Bool, true, false, nat_eq, nat_le, List, [], ◌∷◌, ◌++◌, length, Option, Some, None, refl, sym, ap, ◌∙◌, subst, if◌then◌else◌}
use Rattle.std.specs.Prelude.{Ok, Err}
use Rattle.std.proofs.lemmas.List.Elements.{All-head, All-tail}
use Rattle.plfs_types.specs.declared.entries.Entry.{Entry}
use Rattle.store_api.specs.declared.step.Answer.TheVariants.{Made}
use Rattle.store_api.specs.declared.store.Trouble.TheVariants as trouble
use Rattle.mount_model.specs.Program.{Program, ask, done}
use Rattle.mount_model.specs.declared.call.Ask.{Ask}
use Rattle.mount_model.specs.declared.call.Call.{Call}
use Rattle.mount_model.specs.declared.call.Call.TheVariants as call
use Rattle.mount_model.specs.declared.reply.Refusal.{Refusal}
use Rattle.mount_model.specs.declared.reply.Reply.{Reply}
use Rattle.mount_model.specs.declared.reply.Reply.TheVariants as reply
use Rattle.mount_model.specs.declared.row.Row.{Row}
use Rattle.mount_model.specs.declared.row.Stage.{Stage}
use Rattle.mount_model.specs.declared.row.Stage.TheVariants as stage
use Rattle.mount_model.specs.Flushing.{FlushesRow, flush_outcome, flushed, index_synced, log_synced, sync_index_outcome, sync_index_step, sync_log_outcome, sync_log_step}
use Rattle.mount_model.specs.History.{Event}
use Rattle.mount_model.specs.Making.{MakesAct, Told, UnlessRefused}
use Rattle.mount_model.specs.State.{State, Table, put}
use Rattle.mount_model.specs.Step.{Answers, IsStep}
use Rattle.mount_model.specs.Table.{only, row_of}
use Rattle.mount_model.specs.Writing.{WritesAt, stamp_at, write_check, write_outcome, wrote as with_write}
use Rattle.mount_model.proofs.Facts.{IsHeld, on_writer, row_of-with_row}
use Rattle.mount_sound.specs.Owed.{IsLawful}
use Rattle.mount_model.specs.Running.{unbroken}
use Rattle.writer_flow.specs.declared.handle.WriterHandle.{WriterHandle}
use Rattle.writer_flow.specs.Handle.{flushed_of}
use Rattle.writer_flow.specs.Syncing.{if_log_synced, if_synced, sync_program, syncs_index}
use Rattle.writer_flow.specs.Writing.{if_flushed, if_wrote, write_program, writes}
use Rattle.writer_laws.specs.Waiting.{LeavesAlone, LetsBe}
use Rattle.writer_laws.proofs.Stops.{spared_row, whole_answers}
use Rattle.reader_laws.specs.Moments.{Moment, moment_after, next_moment}
use Rattle.reader_laws.proofs.Gathered.Facts.{legal_first, legal_rest, moment-append}
use Rattle.script_lang.specs.declared.line.Why.TheVariants.{NotOpen}
use Rattle.actor_core.specs.declared.kept.Kept.{Kept}
use Rattle.actor_core.specs.declared.kept.Stop.{Stop}
use Rattle.actor_core.specs.Endings.{Ending, refused, stopped, synced, wrote, wrote_nothing}
use Rattle.actor_core.specs.Stopping.{carried, is_due, one_nearer}
use Rattle.actor_core.specs.Work.{finishes}
use Rattle.actor_core.specs.Writers.{syncs, writes as writes_statement, writes_bytes}
use Rattle.headline_laws.proofs.Plays.Facts.{ComesTo, lets_none}
use Rattle.headline_laws.proofs.Story.Opened.{unbroken_ask}
use Rattle.headline_laws.proofs.Trees.Openings.{IsOpenNow}

-- ---- what acts leave of the table

pub flush_leaves : (row : Row) (table : Table) (told : Told) → ((flush_outcome row table told).table ≡ put (flushed row) table) ⊎ ((flush_outcome row table told).table ≡ table)
flush_leaves row table (Ok Made) = inl refl
flush_leaves row table (Err trouble.Fault) = inr refl
flush_leaves row table (Err trouble.NoMemory) = inr refl
flush_leaves row table told = inr refl

pub log_leaves : (row : Row) (table : Table) (told : Told) → ((sync_log_outcome row table told).table ≡ put (log_synced row) table) ⊎ ((sync_log_outcome row table told).table ≡ table)
log_leaves row table (Ok Made) = inl refl
log_leaves row table (Err trouble.Fault) = inr refl
log_leaves row table (Err trouble.NoMemory) = inr refl
log_leaves row table told = inr refl

pub index_leaves : (row : Row) (table : Table) (told : Told) → ((sync_index_outcome row table told).table ≡ put (index_synced row) table) ⊎ ((sync_index_outcome row table told).table ≡ table)
index_leaves row table (Ok Made) = inl refl
index_leaves row table (Err trouble.Fault) = inr refl
index_leaves row table (Err trouble.NoMemory) = inr refl
index_leaves row table told = inr refl

pub write_leaves : (stamp : ℕ) (row : Row) (at len : ℕ) (table : Table) (told : Told) → ((write_outcome stamp row at len table told).table ≡ put (with_write stamp row at len) table) ⊎ ((write_outcome stamp row at len table told).table ≡ table)
write_leaves stamp row at len table (Ok Made) = inl refl
write_leaves stamp row at len table (Err trouble.Fault) = inr refl
write_leaves stamp row at len table (Err trouble.NoMemory) = inr refl
write_leaves stamp row at len table told = inr refl

pub unless_so : (check : Option Refusal) (old : State) (rep : Reply) (new : State) (does : Type 0) → UnlessRefused check old rep new does → (new ≡ old) ⊎ does
unless_so None old rep new does u = inr u
unless_so (Some why) old rep new does u = inl u.1

one_row : (a b : Row) (o : Option Row) → o ≡ Some a → o ≡ Some b → a ≡ b
one_row a b o p q = cc

-- ---- calls

module _ (n w : ℕ) where
  -- the calls that a write and a sync make of their writer
  abbrev pub IsWork : Call → Type 0
  IsWork (call.Write id at block) = id ≡ w
  IsWork (call.Flush id) = id ≡ w
  IsWork (call.SyncLog id) = id ≡ w
  IsWork (call.SyncIndex id) = id ≡ w
  IsWork other = ⊥

  module _ (old new : State) (o : IsOpenNow n w old) where
    same_table : new.table ≡ old.table → IsOpenNow n w new
    same_table same = record { row = o.row; has = record { there = subst (λ (t : Table). row_of w t.writers ≡ Some o.row) (sym same) o.has.there; owned = o.has.owned }; is_open = o.is_open; id = o.id }

    -- the row is another of the same stage
    put_open : (stages : Stage → Bool) (r x : Row) → IsHeld n stages w old.table.writers r → x.id ≡ r.id → x.owner ≡ r.owner → x.stage ≡ r.stage → new.table ≡ put x old.table → IsOpenNow n w new
    put_open stages r x h same_id same_owner same_stage table =
        let is_row : r ≡ o.row = one_row r o.row (row_of w old.table.writers) h.found o.has.there in
        record {
          row = x;
          has = record {
            there = ap (λ (t : Table). row_of w t.writers) table ∙ ap (λ k. row_of k (put x old.table).writers) (sym (same_id ∙ h.is)) ∙ row_of-with_row x old.table.writers r (ap (λ k. row_of k old.table.writers) (same_id ∙ h.is) ∙ h.found);
            owned = same_owner ∙ h.owned;
          };
          is_open = same_stage ∙ ap (λ (y : Row). y.stage) is_row ∙ o.is_open;
          id = same_id ∙ h.is;
        }

    either_table : (stages : Stage → Bool) (r x : Row) → IsHeld n stages w old.table.writers r → x.id ≡ r.id → x.owner ≡ r.owner → x.stage ≡ r.stage → (new.table ≡ put x old.table) ⊎ (new.table ≡ old.table) → IsOpenNow n w new
    either_table stages r x h same_id same_owner same_stage (inl table) = put_open stages r x h same_id same_owner same_stage table
    either_table stages r x h same_id same_owner same_stage (inr same) = same_table same

    by_table : (stages : Stage → Bool) (r x : Row) (t : Table) → IsHeld n stages w old.table.writers r → x.id ≡ r.id → x.owner ≡ r.owner → x.stage ≡ r.stage → new.table ≡ t → (t ≡ put x old.table) ⊎ (t ≡ old.table) → IsOpenNow n w new
    by_table stages r x t h same_id same_owner same_stage is (inl p) = put_open stages r x h same_id same_owner same_stage (is ∙ p)
    by_table stages r x t h same_id same_owner same_stage is (inr p) = same_table (is ∙ p)

    flush_open : (rep : Reply) → Answers old n (call.Flush w) rep new → IsOpenNow n w new
    flush_open rep a = on_writer n (only stage.Open) w old rep new (λ r. FlushesRow r r.pending.entries old rep new) (IsOpenNow n w new) a (λ same. same_table (ap (λ (s : State). s.table) same)) (λ r h f. by r h r.pending.entries f)
      where
        by : (r : Row) → IsHeld n (only stage.Open) w old.table.writers r → (entries : List Entry) → FlushesRow r entries old rep new → IsOpenNow n w new
        by r h [] f = same_table (ap (λ (s : State). s.table) f.1)
        by r h (x ∷ xs) f = by_table (only stage.Open) r (flushed r) _ h refl refl refl (ap (λ (s : State). s.table) f.after) (flush_leaves r old.table f.told)

    sync_log_open : (rep : Reply) → Answers old n (call.SyncLog w) rep new → IsOpenNow n w new
    sync_log_open rep a =
        on_writer n (only stage.Open) w old rep new (λ r. MakesAct (sync_log_step r) (sync_log_outcome r old.table) old rep new) (IsOpenNow n w new) a (λ same. same_table (ap (λ (s : State). s.table) same))
        (λ r h f. by_table (only stage.Open) r (log_synced r) _ h refl refl refl (ap (λ (s : State). s.table) f.after) (log_leaves r old.table f.told))

    sync_index_open : (rep : Reply) → Answers old n (call.SyncIndex w) rep new → IsOpenNow n w new
    sync_index_open rep a =
        on_writer n (only stage.Open) w old rep new (λ r. MakesAct (sync_index_step r) (sync_index_outcome r old.table) old rep new) (IsOpenNow n w new) a (λ same. same_table (ap (λ (s : State). s.table) same))
        (λ r h f. by_table (only stage.Open) r (index_synced r) _ h refl refl refl (ap (λ (s : State). s.table) f.after) (index_leaves r old.table f.told))

    write_open : (at : ℕ) (block : List ℕ) (rep : Reply) → Answers old n (call.Write w at block) rep new → IsOpenNow n w new
    write_open at block rep a =
        on_writer n (only stage.Open) w old rep new (λ r. UnlessRefused (write_check r at (length block)) old rep new (WritesAt r at block old rep new)) (IsOpenNow n w new) a (λ same. same_table (ap (λ (s : State). s.table) same))
        (λ r h u. by r h (unless_so (write_check r at (length block)) old rep new (WritesAt r at block old rep new) u))
      where
        by : (r : Row) → IsHeld n (only stage.Open) w old.table.writers r → (new ≡ old) ⊎ WritesAt r at block old rep new → IsOpenNow n w new
        by r h (inl same) = same_table (ap (λ (s : State). s.table) same)
        by r h (inr f) = by_table (only stage.Open) r (with_write (stamp_at f.time r) r at (length block)) _ h refl refl refl (ap (λ (s : State). s.table) f.makes.after) (write_leaves (stamp_at f.time r) r at (length block) old.table f.makes.told)

    -- each of them leaves it open
    pub work_open : (q : Call) → IsWork q → (rep : Reply) → Answers old n q rep new → IsOpenNow n w new
    work_open (call.Write id at block) is rep a = write_open at block rep (subst (λ k. Answers old n (call.Write k at block) rep new) is a)
    work_open (call.Flush id) is rep a = flush_open rep (subst (λ k. Answers old n (call.Flush k) rep new) is a)
    work_open (call.SyncLog id) is rep a = sync_log_open rep (subst (λ k. Answers old n (call.SyncLog k) rep new) is a)
    work_open (call.SyncIndex id) is rep a = sync_index_open rep (subst (λ k. Answers old n (call.SyncIndex k) rep new) is a)
    work_open q is rep a = absurd is

  -- ---- along a history

  -- while its caller lets it be
  pub lets_open : (m : Moment) (events : List Event) → IsLawful m.state events → LetsBe n w events → IsOpenNow n w m.state → IsOpenNow n w (moment_after m events).state
  lets_open m [] lawful let_be o = o
  lets_open m (e ∷ events) lawful let_be o =
      let alone : e.caller ≡ n → LeavesAlone w e.ask = All-head (λ (x : Event). x.caller ≡ n → LeavesAlone w x.ask) e events let_be in
      let has = spared_row n w o.row m.state e.caller e.ask e.reply e.after alone o.has lawful.1 in
      lets_open (next_moment m e) events lawful.2 (All-tail (λ (x : Event). x.caller ≡ n → LeavesAlone w x.ask) e events let_be) (record { row = o.row; has = has; is_open = o.is_open; id = o.id })

  event_open : (old : State) (e : Event) (q : Call) → IsStep old e.caller e.ask e.reply e.after → e.caller ≡ n → e.ask ≡ unbroken q → IsWork q → IsOpenNow n w old → IsOpenNow n w e.after
  event_open old e q step own asked work o =
      work_open old e.after o q work e.reply (subst (λ c. Answers old n c e.reply e.after) (ap (λ (a : Ask). a.call) asked) (subst (λ k. Answers old k e.ask.call e.reply e.after) own (whole_answers old e.caller e.ask e.reply e.after (ap (λ (a : Ask). a.stop) asked) step)))

  -- ---- programs of such calls, which their actor may stop within

  abbrev pub AsksWork : {R : Type 0} → Program Call Reply R → Type 0
  AsksWork (done r) = Unit {0}
  AsksWork (ask q k) = IsWork q × ((rep : Reply) → AsksWork (k rep))

  module _ {R : Type 0} (of : R → Ending) (over : Ending) where
    carried_open : (p : Program Call Reply R) (stop : Option Stop) (m : Moment) (mine : List Event) (spent : List (List Event)) (e : Ending) → AsksWork p → IsLawful m.state mine → ComesTo n (carried p stop (λ left r. finishes (of r)) (finishes over)) mine spent e → IsOpenNow n w m.state
        → (over ≡ e) ⊎ IsOpenNow n w (moment_after m mine).state
    carried_open (done r) stop m mine spent e asks lawful comes o = inr (subst (λ es. IsOpenNow n w (moment_after m es).state) (sym comes.0) o)
    carried_open (ask q k) stop m mine spent e asks lawful c o =
        let split : IsLawful m.state (c.before ++ c.call ∷ c.after) = subst (IsLawful m.state) c.all lawful in
        let mid : Moment = moment_after m c.before in
        let here : IsLawful mid.state (c.call ∷ c.after) = legal_rest m c.before (c.call ∷ c.after) split in
        let there : IsOpenNow n w mid.state = lets_open m c.before (legal_first m c.before (c.call ∷ c.after) split) (lets_none n w c.before c.none_before) o in
        let ends : moment_after m mine ≡ moment_after (next_moment mid c.call) c.after = ap (moment_after m) c.all ∙ moment-append m c.before (c.call ∷ c.after) in
        elim (is_due stop) as (λ x. is_due stop ≡ x → ComesTo n (if x then finishes over else carried (k c.call.reply) (one_nearer stop) (λ left r. finishes (of r)) (finishes over)) c.after spent e → (over ≡ e) ⊎ IsOpenNow n w (moment_after m mine).state) [
          | true ↦ λ due on. inl on.2
          | false ↦ λ goes_later on.
              let asked : c.call.ask ≡ unbroken q = c.asked ∙ unbroken_ask q stop goes_later in
              let next_open : IsOpenNow n w c.call.after = event_open mid.state c.call q here.1 c.own asked asks.0 there in
              elim (carried_open (k c.call.reply) (one_nearer stop) (next_moment mid c.call) c.after spent e (asks.1 c.call.reply) here.2 on next_open) as (λ _. (over ≡ e) ⊎ IsOpenNow n w (moment_after m mine).state) [
                | inl is ↦ inl is
                | inr after ↦ inr (subst (λ (x : Moment). IsOpenNow n w x.state) (sym ends) after)
              ]
        ] refl c.goes_on

  -- ---- a write and a sync

  wrote_asks : (handle : WriterHandle) (rep : Reply) → AsksWork (if_wrote handle rep)
  wrote_asks handle (reply.Wrote stamp) = tt
  wrote_asks handle rep = tt

  flushed_asks : (handle : WriterHandle) (at : ℕ) (block : List ℕ) → handle.writer ≡ w → (rep : Reply) → AsksWork (if_flushed handle (writes (flushed_of handle) at block) rep)
  flushed_asks handle at block is (reply.Flushed many) = (is, λ rep. wrote_asks (flushed_of handle) rep)
  flushed_asks handle at block is rep = tt

  write_asks : (handle : WriterHandle) (at : ℕ) (block : List ℕ) → handle.writer ≡ w → AsksWork (write_program handle at block)
  write_asks handle at block is = elim (nat_le handle.cap handle.pending) as (λ b. AsksWork (if b then ask (call.Flush handle.writer) (if_flushed handle (writes (flushed_of handle) at block)) else writes handle at block)) [
    | true ↦ (is, λ rep. flushed_asks handle at block is rep)
    | false ↦ (is, λ rep. wrote_asks handle rep)
  ]

  synced_asks : (handle : WriterHandle) (rep : Reply) → AsksWork (if_synced handle rep)
  synced_asks handle (reply.Synced many) = tt
  synced_asks handle rep = tt

  then_synced : (handle : WriterHandle) → handle.writer ≡ w → (rep : Reply) → AsksWork (if_flushed handle (syncs_index (flushed_of handle)) rep)
  then_synced handle is (reply.Flushed many) = (is, λ rep. synced_asks (flushed_of handle) rep)
  then_synced handle is rep = tt

  log_asks : (handle : WriterHandle) → handle.writer ≡ w → (rep : Reply) → AsksWork (if_log_synced handle rep)
  log_asks handle is reply.Done = elim (nat_eq handle.pending 0) as (λ b. AsksWork (if b then syncs_index handle else ask (call.Flush handle.writer) (if_flushed handle (syncs_index (flushed_of handle))))) [
    | true ↦ (is, λ rep. synced_asks handle rep)
    | false ↦ (is, λ rep. then_synced handle is rep)
  ]
  log_asks handle is rep = tt

  -- it stays open, or its actor was stopped
  abbrev pub StaysSo : Moment → List Event → Ending → Type 0
  StaysSo m mine e = (e.kept.gone ≡ true) ⊎ IsOpenNow n w (moment_after m mine).state

  module _ (left : Kept) (stop : Option Stop) (handle : WriterHandle) (is : handle.writer ≡ w) (m : Moment) (mine : List Event) (spent : List (List Event)) (e : Ending) (lawful : IsLawful m.state mine) (o : IsOpenNow n w m.state) where
    at_once : (end : Ending) → ComesTo n (finishes end) mine spent e → StaysSo m mine e
    at_once end comes = inr (subst (λ es. IsOpenNow n w (moment_after m es).state) (sym comes.0) o)

    by_end : (stopped left ≡ e) ⊎ IsOpenNow n w (moment_after m mine).state → StaysSo m mine e
    by_end (inl over) = inl (ap (λ (x : Ending). x.kept.gone) (sym over))
    by_end (inr after) = inr after

    pub writes_stays : (at : ℕ) (block : List ℕ) → ComesTo n (writes_statement left stop at block (Some handle)) mine spent e → StaysSo m mine e
    writes_stays at block comes =
        elim handle.closing as (λ b. ComesTo n (if b then finishes (refused left NotOpen) else writes_bytes left stop at block handle) mine spent e → StaysSo m mine e) [
          | true ↦ λ c. at_once (refused left NotOpen) c
          | false ↦ λ c. some_bytes c
        ] comes
      where
        some_bytes : ComesTo n (writes_bytes left stop at block handle) mine spent e → StaysSo m mine e
        some_bytes c = elim (nat_eq (length block) 0) as (λ b. ComesTo n (if b then finishes (wrote_nothing left at) else carried (write_program handle at block) stop (λ later out. finishes (wrote left at (length block) out)) (finishes (stopped left))) mine spent e → StaysSo m mine e) [
          | true ↦ λ on. at_once (wrote_nothing left at) on
          | false ↦ λ on. by_end (carried_open (λ out. wrote left at (length block) out) (stopped left) (write_program handle at block) stop m mine spent e (write_asks handle at block is) lawful on o)
        ] c

    pub syncs_stays : ComesTo n (syncs left stop (Some handle)) mine spent e → StaysSo m mine e
    syncs_stays comes =
        elim handle.closing as (λ b. ComesTo n (if b then finishes (refused left NotOpen) else carried (sync_program handle) stop (λ later out. finishes (synced left out)) (finishes (stopped left))) mine spent e → StaysSo m mine e) [
          | true ↦ λ c. at_once (refused left NotOpen) c
          | false ↦ λ c. by_end (carried_open (λ out. synced left out) (stopped left) (sync_program handle) stop m mine spent e (is, λ rep. log_asks handle is rep) lawful c o)
        ] comes
