-- Machines on an open writer end well, or are refused for their reason.
use Rattle.std.proofs.Common.{◌≡◌, ◌≤◌, ◌<◌, ◌+◌, ℕ, Bool, true, false, nat_eq, nat_le, nat_lt, List, [], ◌∷◌, ◌++◌, length, Some, None, Ok, Err, refl, sym, ap, ◌∙◌, inl, inr, subst, arith, if◌then◌else◌, append_assoc}
use Rattle.std.specs.Prelude.{◌&&◌, ◌||◌, not, MatchOption}
use Rattle.std.proofs.lemmas.Bool.Decides.{nat_tests}
use Rattle.plfs_types.specs.declared.entries.Entry.{Entry}
use Rattle.plfs_types.specs.declared.limits.TheConstants.{MAX_LOG, MAX_SIZE, MAX_STAMP}
use Rattle.mount_model.specs.declared.call.Ask.{Ask}
use Rattle.mount_model.specs.declared.call.Call.{Call}
use Rattle.mount_model.specs.declared.call.Call.TheVariants.{Exit, Flush, PutMeta, SyncIndex, SyncLog, Write}
use Rattle.mount_model.specs.declared.reply.Refusal.TheVariants as refusal
use Rattle.mount_model.specs.declared.reply.Reply.{Reply}
use Rattle.mount_model.specs.declared.reply.Reply.TheVariants.{Done, Wrote}
use Rattle.mount_model.specs.declared.row.Row.{Row}
use Rattle.mount_model.specs.declared.row.Stage.TheVariants as stage
use Rattle.mount_model.specs.Flushing.{index_synced, log_synced}
use Rattle.mount_model.specs.History.{Event}
use Rattle.mount_model.specs.Leaving.{closed, exit_check, put_meta_check}
use Rattle.mount_model.specs.Making.{UnlessRefused, Refuses}
use Rattle.mount_model.specs.Regular.{IsCounted}
use Rattle.mount_model.specs.State.{State}
use Rattle.mount_model.specs.Step.{Answers}
use Rattle.mount_model.specs.Table.{is_live, may_close, only, writer_of}
use Rattle.mount_model.specs.Writing.{WritesAt, write_check}
use Rattle.mount_model.proofs.Facts.{match_cases, row_of_all}
use Rattle.mount_sound.specs.Owed.{IsLawful}
use Rattle.mount_model.specs.Program.{ask, done}
use Rattle.mount_model.specs.declared.stuck.Stuck.TheVariants as stuck
use Rattle.mount_model.specs.Running.{Runs}
use Rattle.mount_model.proofs.Flows.Facts.{runs_done, runs_in_two}
use Rattle.reader_laws.specs.Moments.{IsSoundAt, Moment, moment_after, next_moment}
use Rattle.reader_laws.proofs.Gathered.Facts.{legal_first, legal_rest, sound_after}
use Rattle.writer_flow.specs.declared.handle.WriterHandle.{WriterHandle}
use Rattle.writer_flow.specs.declared.handle.WriterOut.{WriterOut}
use Rattle.writer_flow.specs.Closing.{after_sync, close_from, close_program, exits, if_left, if_put, puts_meta}
use Rattle.writer_flow.specs.Ending.{gone_with, stays_with}
use Rattle.writer_flow.specs.Handle.{closing_of, flushed_of, one_more_of, synced_of}
use Rattle.writer_flow.specs.Syncing.{flushes_and_syncs, if_log_synced, if_synced, sync_program, syncs_index}
use Rattle.writer_flow.specs.Writing.{flush_then, if_flushed, if_wrote, write_program, writes}
use Rattle.writer_laws.specs.Knowing.{HasRow}
use Rattle.plain_plays.specs.Calls.{HasCalled}
use Rattle.plain_plays.specs.Served.{ClosesWell, EndsAsItMay, EndsWell, GoesWell, HasOpen, write_reason}
use Rattle.plain_plays.proofs.PlainSteps.Doing.{flush_does, found, index_does, log_does, meta_does, not_none, open_stays, row_stays}
use Rattle.plain_plays.proofs.PlainSteps.Reaching.{StaysUnderOthers, called_later, ended, reached}

-- ---- a sync

module _ (me w : ℕ) where
  -- behind the last call others may call
  pub over : {R : Type 0} (fact : Moment → Type 0) → StaysUnderOthers me fact → (r : R) (m : Moment) (events : List Event) (out : R) → fact m → IsSoundAt m → IsLawful m.state events → Runs me (done r) events out → fact (moment_after m events) × (r ≡ out)
  over fact stays r m [] out holds sound lawful runs = (holds, runs.1)
  over fact stays r m (event ∷ events) out holds sound lawful runs =
      let on = runs_done me r event events out runs in
      over fact stays r (next_moment m event) events out (stays m event events sound lawful on.0 holds) (sound_after m (event ∷ []) (lawful.0, lawful.1, tt) sound) lawful.2 on.1

  -- A sync has ended well: nothing waits, and all is marked as kept.
  pub record SyncedSo (first : WriterHandle) (out : WriterOut) (end : Moment) : Type 0 where
    pub number : ℕ
    pub handle : WriterHandle
    pub is : out ≡ stays_with handle (Ok number)
    pub same : handle.writer ≡ first.writer
    pub tells : handle.landed ≡ number
    pub after : Row
    pub now : HasOpen me w after end.state
    pub none : after.pending.entries ≡ []
    pub log_kept : after.log_mark ≡ after.stored
    pub index_kept : after.index_mark ≡ after.landed

  before_index : (first h : WriterHandle) (m : Moment) (row : Row) (events : List Event) (out : WriterOut) → h.writer ≡ w → h.writer ≡ first.writer → IsSoundAt m → IsLawful m.state events → GoesWell me events → HasOpen me w row m.state → row.pending.entries ≡ [] → row.log_mark ≡ row.stored
      → Runs me (syncs_index h) events out → SyncedSo first out (moment_after m events)
  before_index first h m row events out is of_first sound lawful well opened none marked runs =
      let r = reached me (λ x. HasOpen me w row x.state) (open_stays me w row) m (SyncIndex w) (if_synced h) events out sound lawful well opened (subst (λ id. Runs me (ask (SyncIndex id) (if_synced h)) events out) is runs) in
      subst (SyncedSo first out) r.ends (elim r.served as (λ _. SyncedSo first out (moment_after (next_moment r.mid r.event) r.rest)) [
        | inr (why, told, reason) ↦ not_none me w (only stage.Open) row r.mid.state why _ r.holds.has r.holds.is_open reason
        | inl (n, told) ↦
            let next = index_does me w row r.mid.state r.event.after r.holds n (subst (λ x. Answers r.mid.state me (SyncIndex w) x r.event.after) told r.answers) in
            let o = over (λ x. HasOpen me w (index_synced row) x.state) (open_stays me w (index_synced row)) (stays_with (synced_of n h) (Ok n)) (next_moment r.mid r.event) r.rest out next r.then_sound r.lawful (subst (λ x. Runs me (if_synced h x) r.rest out) told r.runs) in
            record {
              number = n;
              handle = synced_of n h;
              is = sym o.1;
              same = of_first;
              tells = refl;
              after = index_synced row;
              now = o.0;
              none = none;
              log_kept = marked;
              index_kept = refl;
            }
      ])

  before_flush : (h : WriterHandle) (m : Moment) (row : Row) (events : List Event) (out : WriterOut) → h.writer ≡ w → IsSoundAt m → IsLawful m.state events → GoesWell me events → HasOpen me w row m.state → h.pending ≡ length row.pending.entries → row.log_mark ≡ row.stored
      → Runs me (flushes_and_syncs h) events out → SyncedSo h out (moment_after m events)
  before_flush h m row events out is sound lawful well opened pending marked runs =
      elim (nat_eq h.pending 0) as (λ b. nat_eq h.pending 0 ≡ b → Runs me (if b then syncs_index h else ask (Flush h.writer) (if_flushed h (syncs_index (flushed_of h)))) events out → SyncedSo h out (moment_after m events)) [
        | true ↦ λ t on. let zero : length row.pending.entries ≡ 0 = grind (arith, nat_tests, pending) in before_index h h m row events out is refl sound lawful well opened (nothing row.pending.entries zero) marked on
        | false ↦ λ t on.
            let r = reached me (λ x. HasOpen me w row x.state) (open_stays me w row) m (Flush w) (if_flushed h (syncs_index (flushed_of h))) events out sound lawful well opened (subst (λ id. Runs me (ask (Flush id) (if_flushed h (syncs_index (flushed_of h)))) events out) is on) in
            subst (SyncedSo h out) r.ends (elim r.served as (λ _. SyncedSo h out (moment_after (next_moment r.mid r.event) r.rest)) [
              | inr (why, told, reason) ↦ not_none me w (only stage.Open) row r.mid.state why _ r.holds.has r.holds.is_open reason
              | inl (n, told) ↦
                  let e = flush_does me w row r.mid.state r.event.after r.holds n (subst (λ x. Answers r.mid.state me (Flush w) x r.event.after) told r.answers) in
                  before_index h (flushed_of h) (next_moment r.mid r.event) e.after r.rest out is refl r.then_sound r.lawful r.well e.now e.none (e.log_mark ∙ marked ∙ sym e.stored) (subst (λ x. Runs me (if_flushed h (syncs_index (flushed_of h)) x) r.rest out) told r.runs)
            ])
      ] refl runs
    where
      nothing : (es : List Entry) → length es ≡ 0 → es ≡ []
      nothing [] e = refl
      nothing (first ∷ rest) e = absurd (let clash : 1 ≤ 0 = omega (arith, e) in omega (arith, clash))

  pub syncs_so : (h : WriterHandle) (m : Moment) (row : Row) (events : List Event) (out : WriterOut) → h.writer ≡ w → IsSoundAt m → IsLawful m.state events → GoesWell me events → HasOpen me w row m.state → h.pending ≡ length row.pending.entries → Runs me (sync_program h) events out → SyncedSo h out (moment_after m events)
  syncs_so h m row events out is sound lawful well opened pending runs =
      let r = reached me (λ x. HasOpen me w row x.state) (open_stays me w row) m (SyncLog w) (if_log_synced h) events out sound lawful well opened (subst (λ id. Runs me (ask (SyncLog id) (if_log_synced h)) events out) is runs) in
      subst (SyncedSo h out) r.ends (elim r.served as (λ _. SyncedSo h out (moment_after (next_moment r.mid r.event) r.rest)) [
        | inr (why, told, reason) ↦ not_none me w (only stage.Open) row r.mid.state why _ r.holds.has r.holds.is_open reason
        | inl told ↦
            let next = log_does me w row r.mid.state r.event.after r.holds (subst (λ x. Answers r.mid.state me (SyncLog w) x r.event.after) told r.answers) in
            before_flush h (next_moment r.mid r.event) (log_synced row) r.rest out is r.then_sound r.lawful r.well next pending refl (subst (λ x. Runs me (if_log_synced h x) r.rest out) told r.runs)
      ])

-- A sync of an open writer ends well.
pub syncs_well : (m : Moment) (me : ℕ) (handle : WriterHandle) (row : Row) (events : List Event) (out : WriterOut) → IsSoundAt m → IsLawful m.state events → GoesWell me events → HasOpen me handle.writer row m.state → handle.pending ≡ length row.pending.entries → Runs me (sync_program handle) events out → EndsWell out.result
syncs_well m me handle row events out sound lawful well opened pending runs =
    let s = syncs_so me handle.writer handle m row events out refl sound lawful well opened pending runs in
    (s.number, ap (λ (o : WriterOut). o.result) s.is)

-- ---- a write

-- the check of a write whose writer has room in its buffer
room_check : (far spent full : Bool) → full ≡ false → (if far then Some refusal.TooFar else if spent then Some refusal.StampsSpent else if full then Some refusal.Full else None) ≡ (if far then Some refusal.TooFar else if spent then Some refusal.StampsSpent else None)
room_check far spent true e = absurd (cc)
room_check true spent false e = refl
room_check false true false e = refl
room_check false false false e = refl

checked : (row : Row) (at len : ℕ) → length row.pending.entries < row.pending.capacity → write_check row at len ≡ write_reason row at len
checked row at len free =
    let full : nat_le row.pending.capacity (length row.pending.entries) ≡ false = grind (arith, nat_tests, free) in
    room_check (nat_lt MAX_SIZE (at + len) || nat_lt MAX_LOG (row.stored + len)) (nat_le MAX_STAMP row.last || nat_le MAX_STAMP row.floor) (nat_le row.pending.capacity (length row.pending.entries)) full

same_reason : (row other : Row) (at len : ℕ) → other.stored ≡ row.stored → other.last ≡ row.last → other.floor ≡ row.floor → write_reason other at len ≡ write_reason row at len
same_reason row other at len stored last floor = rw stored (rw last (rw floor refl))

module _ (me w : ℕ) where
  pub before_write : (h : WriterHandle) (m : Moment) (row : Row) (at : ℕ) (block : List ℕ) (events : List Event) (out : WriterOut) → h.writer ≡ w → IsSoundAt m → IsLawful m.state events → GoesWell me events → HasOpen me w row m.state → length row.pending.entries < row.pending.capacity
      → Runs me (writes h at block) events out → EndsAsItMay row at (length block) out.result
  before_write h m row at block events out is sound lawful well opened free runs =
      let r = reached me (λ x. HasOpen me w row x.state) (open_stays me w row) m (Write w at block) (if_wrote h) events out sound lawful well opened (subst (λ id. Runs me (ask (Write id at block) (if_wrote h)) events out) is runs) in
      elim r.served as (λ _. EndsAsItMay row at (length block) out.result) [
        | inl (stamp, told) ↦
            let ends : out.result ≡ Ok stamp = sym (ap (λ (o : WriterOut). o.result) (ended me (stays_with (one_more_of h) (Ok stamp)) r.rest out (subst (λ x. Runs me (if_wrote h x) r.rest out) told r.runs))) in
            let passed : write_reason row at (length block) ≡ None = sym (checked row at (length block) free) ∙ wrote r.mid.state r.event.after stamp r.holds (subst (λ x. Answers r.mid.state me (Write w at block) x r.event.after) told r.answers) in
            subst (λ c. MatchOption c (EndsWell out.result) (λ why. out.result ≡ Err (stuck.Refused why))) (sym passed) (stamp, ends)
        | inr (why, told, reason) ↦
            let ends : out.result ≡ Err (stuck.Refused why) = sym (ap (λ (o : WriterOut). o.result) (ended me (stays_with h (Err (stuck.Refused why))) r.rest out (subst (λ x. Runs me (if_wrote h x) r.rest out) told r.runs))) in
            elim reason as (λ _. EndsAsItMay row at (length block) out.result) [
              | inl none ↦ not_none me w (only stage.Open) row r.mid.state why _ r.holds.has r.holds.is_open none
              | inr (other, some, check) ↦
                  let same : other ≡ row = one_row other (sym some ∙ found me w (only stage.Open) row r.mid.state r.holds.has r.holds.is_open) in
                  let is_reason : write_reason row at (length block) ≡ Some why = sym (checked row at (length block) free) ∙ subst (λ (x : Row). write_check x at (length block) ≡ Some why) same check in
                  subst (λ c. MatchOption c (EndsWell out.result) (λ y. out.result ≡ Err (stuck.Refused y))) (sym is_reason) ends
            ]
      ]
    where
      one_row : (other : Row) → Some other ≡ Some row → other ≡ row
      one_row other e = cc

      wrote : (old new : State) (stamp : ℕ) → HasOpen me w row old → Answers old me (Write w at block) (Wrote stamp) new → write_check row at (length block) ≡ None
      wrote old new stamp h a = elim (match_cases (writer_of me (only stage.Open) w old.table.writers) (Refuses refusal.NotOpen old (Wrote stamp) new) (λ (x : Row). UnlessRefused (write_check x at (length block)) old (Wrote stamp) new (WritesAt x at block old (Wrote stamp) new)) a) as (λ _. write_check row at (length block) ≡ None) [
        | inl (none, refused) ↦ absurd (let other = refused.0 in cc)
        | inr (x, some, d) ↦
            let same : x ≡ row = one_row x (sym some ∙ found me w (only stage.Open) row old h.has h.is_open) in
            elim (match_cases (write_check x at (length block)) (WritesAt x at block old (Wrote stamp) new) (λ why. Refuses why old (Wrote stamp) new) d) as (λ _. write_check row at (length block) ≡ None) [
              | inl (none, does) ↦ subst (λ (y : Row). write_check y at (length block) ≡ None) same none
              | inr (why, is_why, refused) ↦ absurd (let other = refused.0 in cc)
            ]
      ]

-- A write of an open writer is made, or refused for its reason.
pub writes_well : (m : Moment) (me : ℕ) (handle : WriterHandle) (row : Row) (at : ℕ) (block : List ℕ) (events : List Event) (out : WriterOut) → IsSoundAt m → IsLawful m.state events → GoesWell me events → HasOpen me handle.writer row m.state
    → handle.pending ≡ length row.pending.entries → handle.cap ≡ row.pending.capacity → Runs me (write_program handle at block) events out → EndsAsItMay row at (length block) out.result
writes_well m me handle row at block events out sound lawful well opened pending cap runs =
    let some : 1 ≤ row.pending.capacity = (row_of_all IsCounted handle.writer m.state.table.writers row sound.regular.counted opened.has.there).some_cap in
    elim (nat_le handle.cap handle.pending) as (λ b. nat_le handle.cap handle.pending ≡ b → Runs me (if b then flush_then handle (writes (flushed_of handle) at block) else writes handle at block) events out → EndsAsItMay row at (length block) out.result) [
      | false ↦ λ t on. let free : length row.pending.entries < row.pending.capacity = grind (arith, nat_tests, pending, cap) in before_write me handle.writer handle m row at block events out refl sound lawful well opened free on
      | true ↦ λ t on.
          let r = reached me (λ x. HasOpen me handle.writer row x.state) (open_stays me handle.writer row) m (Flush handle.writer) (if_flushed handle (writes (flushed_of handle) at block)) events out sound lawful well opened on in
          elim r.served as (λ _. EndsAsItMay row at (length block) out.result) [
            | inr (why, told, reason) ↦ not_none me handle.writer (only stage.Open) row r.mid.state why _ r.holds.has r.holds.is_open reason
            | inl (n, told) ↦
                let e = flush_does me handle.writer row r.mid.state r.event.after r.holds n (subst (λ x. Answers r.mid.state me (Flush handle.writer) x r.event.after) told r.answers) in
                let free : length e.after.pending.entries < e.after.pending.capacity = omega (arith, ap length e.none, e.capacity, some) in
                subst (λ c. MatchOption c (EndsWell out.result) (λ why. out.result ≡ Err (stuck.Refused why))) (same_reason row e.after at (length block) e.stored e.last e.floor)
                (before_write me handle.writer (flushed_of handle) (next_moment r.mid r.event) e.after at block r.rest out refl r.then_sound r.lawful r.well e.now free (subst (λ x. Runs me (if_flushed handle (writes (flushed_of handle) at block) x) r.rest out) told r.runs))
          ]
    ] refl runs

-- ---- a close

module _ (me w : ℕ) where
  -- all is kept, so it may leave
  free_to_put : (row : Row) → row.pending.entries ≡ [] → row.log_mark ≡ row.stored → row.index_mark ≡ row.landed → put_meta_check row ≡ None
  free_to_put row none log index =
      let a : nat_lt 0 (length row.pending.entries) ≡ false = grind (arith, nat_tests, ap length none) in
      let b : nat_eq row.log_mark row.stored ≡ true = grind (arith, nat_tests, log) in
      let c : nat_eq row.index_mark row.landed ≡ true = grind (arith, nat_tests, index) in
      rw a (rw b (rw c refl))

  free_to_leave : (stored : ℕ) → (if nat_lt 0 stored && not true then Some refusal.NoMeta else None) ≡ None
  free_to_leave stored = elim (nat_lt 0 stored) as (λ b. (if b && not true then Some refusal.NoMeta else None) ≡ None) [ true ↦ refl | false ↦ refl ]

  -- how it ends from the making of its metadata dropping on, and from its leaving on
  record Leaves (h : WriterHandle) (events : List Event) (out : WriterOut) : Type 0 where
    is : out ≡ gone_with (Ok h.landed)
    left : HasCalled me (Exit w) Done events

  before_exit : (h : WriterHandle) (m : Moment) (row : Row) (events : List Event) (out : WriterOut) → h.writer ≡ w → IsSoundAt m → IsLawful m.state events → GoesWell me events → HasRow me w (closed row) m.state → Runs me (exits h) events out → Leaves h events out
  before_exit h m row events out is sound lawful well has runs =
      let r = reached me (λ x. HasRow me w (closed row) x.state) (row_stays me w (closed row)) m (Exit w) (if_left h) events out sound lawful well has (subst (λ id. Runs me (ask (Exit id) (if_left h)) events out) is runs) in
      elim r.served as (λ _. Leaves h events out) [
        | inl told ↦ record {
          is = sym (ended me (gone_with (Ok h.landed)) r.rest out (subst (λ x. Runs me (if_left h x) r.rest out) told r.runs));
          left = record { before = r.before; event = r.event; later = r.rest; split = r.split; own = r.own; asked = ap (λ (a : Ask). a.call) r.asked; told = told };
        }
        | inr (why, told, reason) ↦ elim reason as (λ _. Leaves h events out) [
          | inl none ↦ not_none me w is_live (closed row) r.mid.state why _ r.holds refl none
          | inr (other, some, check) ↦
              absurd (let same : Some other ≡ Some (closed row) = sym some ∙ found me w is_live (closed row) r.mid.state r.holds refl in
              let one : other ≡ closed row = cc in
              let clash : Some why ≡ None = sym (subst (λ (x : Row). exit_check x ≡ Some why) one check) ∙ free_to_leave row.stored in
              cc)
        ]
      ]

  pub record Puts (h : WriterHandle) (events : List Event) (out : WriterOut) : Type 0 where
    pub is : out ≡ gone_with (Ok h.landed)
    pub told_of : HasCalled me (PutMeta w) Done events
    pub left : HasCalled me (Exit w) Done events

  pub before_put : (h : WriterHandle) (m : Moment) (row : Row) (events : List Event) (out : WriterOut) → h.writer ≡ w → IsSoundAt m → IsLawful m.state events → GoesWell me events → HasOpen me w row m.state → row.pending.entries ≡ [] → row.log_mark ≡ row.stored → row.index_mark ≡ row.landed
      → Runs me (puts_meta h) events out → Puts h events out
  before_put h m row events out is sound lawful well opened none log index runs =
      let may : may_close row.stage ≡ true = rw opened.is_open refl in
      let r = reached me (λ x. HasOpen me w row x.state) (open_stays me w row) m (PutMeta w) (if_put (closing_of h)) events out sound lawful well opened (subst (λ id. Runs me (ask (PutMeta id) (if_put (closing_of h))) events out) is runs) in
      elim r.served as (λ _. Puts h events out) [
        | inl told ↦
            let next = meta_does me w row r.mid.state r.event.after r.holds may (free_to_put row none log index) (subst (λ x. Answers r.mid.state me (PutMeta w) x r.event.after) told r.answers) in
            let l = before_exit (closing_of h) (next_moment r.mid r.event) row r.rest out is r.then_sound r.lawful r.well next (subst (λ x. Runs me (if_put (closing_of h) x) r.rest out) told r.runs) in
            record {
              is = l.is;
              told_of = record { before = r.before; event = r.event; later = r.rest; split = r.split; own = r.own; asked = ap (λ (a : Ask). a.call) r.asked; told = told };
              left = called_later me (Exit w) Done r.before r.event r.rest events r.split l.left;
            }
        | inr (why, told, reason) ↦ elim reason as (λ _. Puts h events out) [
          | inl absent ↦ not_none me w may_close row r.mid.state why _ r.holds.has may absent
          | inr (other, some, check) ↦
              absurd (let same : Some other ≡ Some row = sym some ∙ found me w may_close row r.mid.state r.holds.has may in
              let one : other ≡ row = cc in
              let clash : Some why ≡ None = sym (subst (λ (x : Row). put_meta_check x ≡ Some why) one check) ∙ free_to_put row none log index in
              cc)
        ]
      ]

-- the events of both parts go well
pub well_first : (me : ℕ) (first rest : List Event) → GoesWell me (first ++ rest) → GoesWell me first
well_first me [] rest well = tt
well_first me (e ∷ first) rest well = (well.0, well_first me first rest well.1)

pub well_rest : (me : ℕ) (first rest : List Event) → GoesWell me (first ++ rest) → GoesWell me rest
well_rest me [] rest well = well
well_rest me (e ∷ first) rest well = well_rest me first rest well.1

-- a call of the second part is one of all
pub called_second : (me : ℕ) (call : Call) (reply : Reply) (first rest events : List Event) → events ≡ first ++ rest → HasCalled me call reply rest → HasCalled me call reply events
called_second me call reply first rest events split c = record {
  before = first ++ c.before;
  event = c.event;
  later = c.later;
  split = split ∙ ap (λ (l : List Event). first ++ l) c.split ∙ sym (append_assoc first c.before (c.event ∷ c.later));
  own = c.own;
  asked = c.asked;
  told = c.told;
}

-- A close of an open writer ends well, and the writer has left.
pub closes_well : (m : Moment) (me : ℕ) (handle : WriterHandle) (row : Row) (events : List Event) (out : WriterOut) → IsSoundAt m → IsLawful m.state events → GoesWell me events → HasOpen me handle.writer row m.state
    → handle.pending ≡ length row.pending.entries → handle.closing ≡ false → Runs me (close_program handle) events out → ClosesWell me handle.writer events out
closes_well m me handle row events out sound lawful well opened pending fresh runs =
    let two = runs_in_two me (sync_program handle) after_sync events out (subst (λ b. Runs me (close_from b handle) events out) fresh runs) in
    let whole : IsLawful m.state (two.first ++ two.rest) = subst (IsLawful m.state) two.all lawful in
    let went : GoesWell me (two.first ++ two.rest) = subst (GoesWell me) two.all well in
    let s = syncs_so me handle.writer handle m row two.first two.value refl sound (legal_first m two.first two.rest whole) (well_first me two.first two.rest went) opened pending two.runs in
    let p = before_put me handle.writer s.handle (moment_after m two.first) s.after two.rest out s.same (sound_after m two.first (legal_first m two.first two.rest whole) sound) (legal_rest m two.first two.rest whole) (well_rest me two.first two.rest went) s.now s.none s.log_kept s.index_kept
    (subst (λ (o : WriterOut). Runs me (after_sync o) two.rest out) s.is two.then_runs) in
    record {
      landed = s.handle.landed;
      is = p.is;
      told_of = called_second me (PutMeta handle.writer) Done two.first two.rest events two.all p.told_of;
      left = called_second me (Exit handle.writer) Done two.first two.rest events two.all p.left;
    }
