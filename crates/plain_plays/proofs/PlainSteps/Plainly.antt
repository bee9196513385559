-- A sync and a close of an open writer leave it as a plain machine leaves its writer, whoever calls in between.
use Rattle.std.proofs.Common.{◌≡◌, ◌≤◌, ℕ, true, false, nat_eq, List, [], ◌∷◌, ◌++◌, length, Result, Ok, refl, sym, ap, ◌∙◌, inl, inr, subst, arith, if◌then◌else◌}
use Rattle.std.proofs.lemmas.Bool.Decides.{nat_tests}
use Rattle.plfs_types.specs.declared.entries.Entry.{Entry}
use Rattle.writer_flow.specs.Closing.{after_sync, close_from, close_program}
use Rattle.mount_model.specs.declared.call.Call.TheVariants.{Flush, SyncIndex, SyncLog, Exit, PutMeta}
use Rattle.mount_model.specs.declared.reply.Reply.TheVariants.{Done}
use Rattle.mount_model.specs.declared.row.Row.{Row}
use Rattle.mount_model.specs.declared.row.Stage.TheVariants as stage
use Rattle.mount_model.specs.Flushing.{index_synced, log_synced}
use Rattle.mount_model.specs.History.{Event}
use Rattle.mount_model.specs.Step.{Answers}
use Rattle.mount_model.specs.Table.{only}
use Rattle.mount_sound.specs.Ledger.{Written}
use Rattle.mount_sound.specs.Owed.{IsLawful}
use Rattle.mount_model.specs.Program.{ask}
use Rattle.mount_model.specs.declared.stuck.Stuck.{Stuck}
use Rattle.mount_model.specs.Running.{Runs}
use Rattle.mount_model.proofs.Flows.Facts.{runs_in_two}
use Rattle.reader_laws.specs.Moments.{Dropping, IsSoundAt, Moment, moment_after, next_moment}
use Rattle.reader_laws.proofs.Gathered.Facts.{sound_after, legal_first, legal_rest}
use Rattle.writer_flow.specs.declared.handle.WriterHandle.{WriterHandle}
use Rattle.writer_flow.specs.declared.handle.WriterOut.{WriterOut}
use Rattle.writer_flow.specs.Ending.{stays_with, gone_with}
use Rattle.writer_flow.specs.Handle.{flushed_of, synced_of}
use Rattle.writer_flow.specs.Syncing.{flushes_and_syncs, if_log_synced, if_synced, sync_program, syncs_index}
use Rattle.writer_flow.specs.Writing.{if_flushed}
use Rattle.plain_machine.specs.Machine.{PlainWriter}
use Rattle.plain_machine.specs.Becoming.{all_landed}
use Rattle.plain_plays.specs.Plainly.{KeepsPlain, MirrorsOwn, SyncsPlainly, dropping_of, ClosesPlainly}
use Rattle.plain_plays.specs.Served.{GoesWell}
use Rattle.plain_plays.proofs.PlainSteps.Doing.{flush_does, index_does, log_does, not_none, number_told}
use Rattle.plain_plays.proofs.PlainSteps.Having.{Has, has_flushed, has_on, has_stays, its_between}
use Rattle.plain_plays.proofs.PlainSteps.Reaching.{reached}
use Rattle.plain_plays.proofs.PlainSteps.Serving.{over, before_put, called_second, syncs_so, well_first, well_rest}

module _ (me number : ℕ) (w : PlainWriter) where
  abbrev D : Dropping
  D = dropping_of number w

  -- what is mirrored, where the writer has issued these writes, of which so many have landed
  pub mirrored : (handle : WriterHandle) (row : Row) (issued : List Written) (count : ℕ) (x : Moment) → IsSoundAt x → Has me D row issued count x → row.landed ≡ count → row.floor ≡ w.floor → row.pending.capacity ≡ w.capacity → handle.writer ≡ w.id → handle.pending ≡ length row.pending.entries → handle.cap ≡ w.capacity → handle.closing ≡ false
      → MirrorsOwn me number handle (record w { issued = issued; landed = count }) x
  mirrored handle row issued count x sound h counted floor capacity writer pending cap fresh = record {
    sound = sound;
    row = row;
    opened = h.opened;
    room = h.room;
    host = h.host;
    floor = floor;
    capacity = capacity;
    counted = counted;
    issued = h.issued_is;
    landed_is = h.landed_is;
    writer = writer;
    pending = pending;
    cap_is = cap;
    fresh = fresh;
  }

  -- ---- a sync

  before_index : (h : WriterHandle) (m : Moment) (row : Row) (issued : List Written) (count : ℕ) (events : List Event) (out : WriterOut) → h.writer ≡ w.id → h.cap ≡ w.capacity → h.closing ≡ false → h.pending ≡ 0 → IsSoundAt m → IsLawful m.state events → GoesWell me events → Has me D row issued count m → row.pending.entries ≡ [] → row.floor ≡ w.floor → row.pending.capacity ≡ w.capacity
      → Runs me (syncs_index h) events out → KeepsPlain me number (record w { issued = issued; landed = length issued }) (moment_after m events) (Ok (length issued)) out
  before_index h m row issued count events out is cap fresh empty sound lawful well has none floor capacity runs =
      let r = reached me (Has me D row issued count) (has_stays me D row issued count) m (SyncIndex w.id) (if_synced h) events out sound lawful well has (subst (λ id. Runs me (ask (SyncIndex id) (if_synced h)) events out) is runs) in
      subst (λ x. KeepsPlain me number (record w { issued = issued; landed = length issued }) x (Ok (length issued)) out) r.ends (elim r.served as (λ _. KeepsPlain me number (record w { issued = issued; landed = length issued }) (moment_after (next_moment r.mid r.event) r.rest) (Ok (length issued)) out) [
        | inr (why, told, reason) ↦ not_none me w.id (only stage.Open) row r.mid.state why _ r.holds.opened.has r.holds.opened.is_open reason
        | inl (n, told) ↦
            let a = subst (λ x. Answers r.mid.state me (SyncIndex w.id) x r.event.after) told r.answers in
            let next : Moment = next_moment r.mid r.event in
            let now = index_does me w.id row r.mid.state r.event.after r.holds.opened n a in
            let b = its_between me D row issued count r.mid r.sound r.holds in
            let all : count ≡ length issued = omega (arith, b.issued, b.no_fewer, b.no_more, ap length none, ap length r.holds.issued_is, r.holds.landed_is) in
            let counted : row.landed ≡ length issued = omega (arith, b.issued, ap length none, ap length r.holds.issued_is) in
            let on : Has me D (index_synced row) issued count next = has_on me D row (index_synced row) issued count r.mid r.event r.rest (SyncIndex w.id) r.sound r.whole r.asked r.holds now refl refl refl tt in
            let o = over me w.id (Has me D (index_synced row) issued count) (has_stays me D (index_synced row) issued count) (stays_with (synced_of n h) (Ok n)) next r.rest out on r.then_sound r.lawful (subst (λ x. Runs me (if_synced h x) r.rest out) told r.runs) in
            let number_is : n ≡ length issued = number_told me w.id row r.mid.state r.event.after r.holds.opened n a ∙ counted in
            let end : Has me D (index_synced row) issued (length issued) (moment_after next r.rest) = subst (λ k. Has me D (index_synced row) issued k (moment_after next r.rest)) all o.0 in
            record {
              handle = synced_of n h;
              is = sym o.1 ∙ ap (λ k. stays_with (synced_of n h) (Ok k)) number_is;
              mirrors = mirrored (synced_of n h) (index_synced row) issued (length issued) (moment_after next r.rest) (sound_after next r.rest r.lawful r.then_sound) end counted floor capacity is (empty ∙ sym (ap length none)) cap fresh;
            }
      ])

  nothing : (es : List Entry) → length es ≡ 0 → es ≡ []
  nothing [] e = refl
  nothing (first ∷ rest) e = absurd (let clash : 1 ≤ 0 = omega (arith, e) in omega (arith, clash))

  before_flush : (h : WriterHandle) (m : Moment) (row : Row) (issued : List Written) (count : ℕ) (events : List Event) (out : WriterOut) → h.writer ≡ w.id → h.cap ≡ w.capacity → h.closing ≡ false → IsSoundAt m → IsLawful m.state events → GoesWell me events → Has me D row issued count m → h.pending ≡ length row.pending.entries → row.floor ≡ w.floor → row.pending.capacity ≡ w.capacity
      → Runs me (flushes_and_syncs h) events out → KeepsPlain me number (record w { issued = issued; landed = length issued }) (moment_after m events) (Ok (length issued)) out
  before_flush h m row issued count events out is cap fresh sound lawful well has pending floor capacity runs =
      elim (nat_eq h.pending 0) as (λ b. nat_eq h.pending 0 ≡ b → Runs me (if b then syncs_index h else ask (Flush h.writer) (if_flushed h (syncs_index (flushed_of h)))) events out → KeepsPlain me number (record w { issued = issued; landed = length issued }) (moment_after m events) (Ok (length issued)) out) [
        | true ↦ λ t on.
            let zero : h.pending ≡ 0 = grind (arith, nat_tests) in
            before_index h m row issued count events out is cap fresh zero sound lawful well has (nothing row.pending.entries (sym pending ∙ zero)) floor capacity on
        | false ↦ λ t on.
            let r = reached me (Has me D row issued count) (has_stays me D row issued count) m (Flush w.id) (if_flushed h (syncs_index (flushed_of h))) events out sound lawful well has (subst (λ id. Runs me (ask (Flush id) (if_flushed h (syncs_index (flushed_of h)))) events out) is on) in
            subst (λ x. KeepsPlain me number (record w { issued = issued; landed = length issued }) x (Ok (length issued)) out) r.ends (elim r.served as (λ _. KeepsPlain me number (record w { issued = issued; landed = length issued }) (moment_after (next_moment r.mid r.event) r.rest) (Ok (length issued)) out) [
              | inr (why, told, reason) ↦ not_none me w.id (only stage.Open) row r.mid.state why _ r.holds.opened.has r.holds.opened.is_open reason
              | inl (n, told) ↦
                  let e = flush_does me w.id row r.mid.state r.event.after r.holds.opened n (subst (λ x. Answers r.mid.state me (Flush w.id) x r.event.after) told r.answers) in
                  let next = has_flushed me D row e.after issued count r.mid r.event r.sound r.then_sound r.asked r.holds e.now e.room e.host e.none in
                  before_index (flushed_of h) (next_moment r.mid r.event) e.after issued (length issued) r.rest out is cap fresh refl r.then_sound r.lawful r.well next e.none (e.floor ∙ floor) (e.capacity ∙ capacity) (subst (λ x. Runs me (if_flushed h (syncs_index (flushed_of h)) x) r.rest out) told r.runs)
            ])
      ] refl runs

  -- where the writer is mirrored, the tree and the ledger have it so
  pub has_it : (handle : WriterHandle) (m : Moment) (o : MirrorsOwn me number handle w m) → Has me D o.row w.issued w.landed m
  has_it handle m o = record { opened = o.opened; room = o.room; host = o.host; issued_is = o.issued; landed_is = o.landed_is }

  pub syncs_plainly : (m : Moment) (handle : WriterHandle) (events : List Event) (out : WriterOut) → IsLawful m.state events → GoesWell me events → MirrorsOwn me number handle w m → Runs me (sync_program handle) events out → SyncsPlainly m me number w events out
  syncs_plainly m handle events out lawful well o runs =
      let row : Row = o.row in
      let r = reached me (Has me D row w.issued w.landed) (has_stays me D row w.issued w.landed) m (SyncLog w.id) (if_log_synced handle) events out o.sound lawful well (has_it handle m o) (subst (λ id. Runs me (ask (SyncLog id) (if_log_synced handle)) events out) o.writer runs) in
      subst (λ x. KeepsPlain me number (all_landed w) x (Ok (length w.issued)) out) r.ends (elim r.served as (λ _. KeepsPlain me number (all_landed w) (moment_after (next_moment r.mid r.event) r.rest) (Ok (length w.issued)) out) [
        | inr (why, told, reason) ↦ not_none me w.id (only stage.Open) row r.mid.state why _ r.holds.opened.has r.holds.opened.is_open reason
        | inl told ↦
            let now = log_does me w.id row r.mid.state r.event.after r.holds.opened (subst (λ x. Answers r.mid.state me (SyncLog w.id) x r.event.after) told r.answers) in
            let on : Has me D (log_synced row) w.issued w.landed (next_moment r.mid r.event) = has_on me D row (log_synced row) w.issued w.landed r.mid r.event r.rest (SyncLog w.id) r.sound r.whole r.asked r.holds now refl refl refl tt in
            before_flush handle (next_moment r.mid r.event) (log_synced row) w.issued w.landed r.rest out o.writer o.cap_is o.fresh r.then_sound r.lawful r.well on o.pending o.floor o.capacity (subst (λ x. Runs me (if_log_synced handle x) r.rest out) told r.runs)
      ])

  pub closes_plainly : (m : Moment) (handle : WriterHandle) (events : List Event) (out : WriterOut) → IsLawful m.state events → GoesWell me events → MirrorsOwn me number handle w m → Runs me (close_program handle) events out → ClosesPlainly me w events out
  closes_plainly m handle events out lawful well o runs =
      let two = runs_in_two me (sync_program handle) after_sync events out (subst (λ b. Runs me (close_from b handle) events out) o.fresh runs) in
      let whole : IsLawful m.state (two.first ++ two.rest) = subst (IsLawful m.state) two.all lawful in
      let went : GoesWell me (two.first ++ two.rest) = subst (GoesWell me) two.all well in
      let first : IsLawful m.state two.first = legal_first m two.first two.rest whole in
      let s = syncs_so me w.id handle m o.row two.first two.value o.writer o.sound first (well_first me two.first two.rest went) o.opened o.pending two.runs in
      let k = syncs_plainly m handle two.first two.value first (well_first me two.first two.rest went) o two.runs in
      let count : s.number ≡ length w.issued = same_ok s.number (length w.issued) (ap (λ (x : WriterOut). x.result) (sym s.is ∙ k.is)) in
      let p = before_put me w.id s.handle (moment_after m two.first) s.after two.rest out (s.same ∙ o.writer) (sound_after m two.first first o.sound) (legal_rest m two.first two.rest whole) (well_rest me two.first two.rest went) s.now s.none s.log_kept s.index_kept
      (subst (λ (x : WriterOut). Runs me (after_sync x) two.rest out) s.is two.then_runs) in
      record {
        is = p.is ∙ ap (λ n. gone_with (Ok n)) (s.tells ∙ count);
        told_of = called_second me (PutMeta w.id) Done two.first two.rest events two.all p.told_of;
        left = called_second me (Exit w.id) Done two.first two.rest events two.all p.left;
      }
    where
      same_ok : (a b : ℕ) → ◌≡◌ {A = Result ℕ Stuck} (Ok a) (Ok b) → a ≡ b
      same_ok a b e = cc
