-- Which refusals the programs of a writer end in that its caller has open, as its handle says: a sync and a close in none, and a write in none but for want of a stamp or since it ends too far.
use Rattle.std.proofs.Common.{◌≡◌, ◌≤◌, ◌<◌, ◌+◌, inl, inr, ℕ, Bool, true, false, nat_eq, nat_le, nat_lt, ◌&&◌, ◌||◌, length, Option, Some, None, Ok, Err, refl, ap, sym, ◌∙◌, subst, arith, if◌then◌else◌}
use Rattle.std.specs.Prelude.{List, not}
use Rattle.std.proofs.lemmas.Bool.Decides.{nat_tests}
use Rattle.plfs_types.specs.declared.limits.TheConstants.{MAX_LOG, MAX_SIZE, MAX_STAMP}
use Rattle.mount_model.specs.Program.{Program, ask, done, followed_by}
use Rattle.mount_model.specs.declared.call.Call.{Call}
use Rattle.mount_model.specs.declared.call.Call.TheVariants.{Exit, Flush, PutMeta, SyncIndex, SyncLog, Write}
use Rattle.mount_model.specs.declared.reply.Refusal.{Refusal}
use Rattle.mount_model.specs.declared.reply.Refusal.TheVariants as refusal
use Rattle.mount_model.specs.declared.reply.Reply.{Reply}
use Rattle.mount_model.specs.declared.reply.Reply.TheVariants as reply
use Rattle.mount_model.specs.declared.row.Row.{Row}
use Rattle.mount_model.specs.declared.row.Stage.{Stage}
use Rattle.mount_model.specs.declared.row.Stage.TheVariants as stage
use Rattle.mount_model.specs.declared.stuck.Stuck.{Stuck}
use Rattle.mount_model.specs.Leaving.{exit_check, put_meta_check}
use Rattle.mount_model.specs.State.{State}
use Rattle.mount_model.specs.Step.{Answers}
use Rattle.mount_model.specs.Table.{held_by, is_live, may_close, only, row_of, writer_of}
use Rattle.mount_model.specs.Writing.{write_check}
use Rattle.mount_model.specs.Regular.{IsCounted}
use Rattle.mount_model.proofs.Facts.{row_of_all, row_of_id}
use Rattle.refusal_laws.specs.Reasons.{HasNoWriter}
use Rattle.reader_laws.specs.Moments.{Moment}
use Rattle.writer_flow.specs.declared.handle.WriterHandle.{WriterHandle}
use Rattle.writer_flow.specs.declared.handle.WriterOut.{WriterOut}
use Rattle.writer_flow.specs.Closing.{after_sync as then_closes, close_from, exits, if_left, if_put, puts_meta}
use Rattle.writer_flow.specs.Ending.{stays_with, trouble}
use Rattle.writer_flow.specs.Handle.{closing_of, flushed_of, synced_of}
use Rattle.writer_flow.specs.Syncing.{if_log_synced, if_synced, sync_program, syncs_index}
use Rattle.writer_flow.specs.Writing.{flush_then, if_flushed, if_wrote, write_program, writes}
use Rattle.writer_laws.specs.Knowing.{HasRow}
use Rattle.writer_laws.proofs.Own.{FlushedOwn, LogSyncedOwn, MetaOwn, SyncedOwn, flush_own, put_meta_own, sync_index_own, sync_log_own}
use Rattle.headline_laws.proofs.Landed.Gone.{meta_put}
use Rattle.headline_laws.proofs.Reasons.Goes.{EndsSo, Fact, Goes, IsTroubleSo, Stepped, anything, rowed}
use Rattle.headline_laws.proofs.Reasons.Looks.{never_refused}
use Rattle.headline_laws.proofs.Statements.Living.{IsWork, work_open}
use Rattle.headline_laws.proofs.Trees.Openings.{IsOpenNow}

-- ---- the table has the writer

one_row : (a b : Row) (o : Option Row) → o ≡ Some a → o ≡ Some b → a ≡ b
one_row a b o p q = cc

one_refusal : (a b : Refusal) → Some a ≡ Some b → a ≡ b
one_refusal a b is = cc

-- its caller finds it
finds : (n w : ℕ) (stages : Stage → Bool) (row : Row) (state : State) → HasRow n w row state → stages row.stage ≡ true → writer_of n stages w state.table.writers ≡ Some row
finds n w stages row state has staged = ap (held_by n stages) has.there ∙ found
  where
    its_own : nat_eq row.owner n ≡ true
    its_own = let owned : row.owner ≡ n = has.owned in grind (arith, nat_tests)

    found : (if nat_eq row.owner n && stages row.stage then Some row else None) ≡ Some row
    found = rw (its_own, staged) refl

lacks_not : (n w : ℕ) (stages : Stage → Bool) (row : Row) (state : State) (why : Refusal) → HasRow n w row state → stages row.stage ≡ true → HasNoWriter n stages w state why → ⊥
lacks_not n w stages row state why has staged lacks = let clash : None ≡ Some row = sym lacks.1 ∙ finds n w stages row state has staged in cc

-- a check that gives no reason
checks_not : (check : Row → Option Refusal) (row r : Row) (o : Option Row) (why : Refusal) → o ≡ Some row → o ≡ Some r → check row ≡ None → check r ≡ Some why → ⊥
checks_not check row r o why has found none some =
    let same : r ≡ row = one_row r row o found has in
    let clash : None ≡ Some why = sym none ∙ ap check (sym same) ∙ some in
    cc

open_may_close : (row : Row) → row.stage ≡ stage.Open → may_close row.stage ≡ true
open_may_close row is = subst (λ (s : Stage). may_close s ≡ true) (sym is) refl

open_only : (row : Row) → row.stage ≡ stage.Open → only stage.Open row.stage ≡ true
open_only row is = subst (λ (s : Stage). only stage.Open s ≡ true) (sym is) refl

-- of its caller's work it stays open
stays_open : (n w : ℕ) (q : Call) (row after : Row) (old new : State) (rep : Reply) → IsWork n w q → HasRow n w row old → row.stage ≡ stage.Open → Answers old n q rep new → HasRow n w after new → after.stage ≡ stage.Open
stays_open n w q row after old new rep is has open_is answers then_has =
    let o : IsOpenNow n w new = work_open n w old new (record { row = row; has = has; is_open = open_is; id = row_of_id w old.table.writers row has.there }) q is rep answers in
    ap (λ (r : Row). r.stage) (one_row after o.row (row_of w new.table.writers) then_has.there o.has.there) ∙ o.is_open

-- ---- its calls

-- all that it wrote is kept, and it may leave
pub record MayLeave (row : Row) : Type 0 where
  pub is_open : row.stage ≡ stage.Open
  pub empty : length row.pending.entries ≡ 0
  pub log : row.log_mark ≡ row.stored
  pub index : row.index_mark ≡ row.landed

-- for want of a stamp, or since it ends too far
abbrev pub IsOfPlace : Refusal → Type 0
IsOfPlace refusal.TooFar = Unit {0}
IsOfPlace refusal.StampsSpent = Unit {0}
IsOfPlace other = ⊥

module _ (n : ℕ) where
  -- a call of its caller's work isn't refused
  unlacking : (w : ℕ) (row : Row) (m : Moment) (why : Refusal) → HasRow n w row m.state → row.stage ≡ stage.Open → HasNoWriter n (only stage.Open) w m.state why → ⊥
  unlacking w row m why has open_is lacks = lacks_not n w (only stage.Open) row m.state why has (open_only row open_is) lacks

  -- ---- a sync, and what follows it

  module _ (good : WriterOut → Type 0) (after : WriterOut → Program Call Reply WriterOut) (kept : (handle : WriterHandle) (row : Row) (count : ℕ) → MayLeave row → Goes n good (rowed handle.writer row) (after (stays_with handle (Ok count))))
      (lost : (handle : WriterHandle) (row : Row) (why : Stuck) → IsTroubleSo never_refused why → Goes n good (rowed handle.writer row) (after (stays_with handle (Err why)))) where
    abbrev Then : WriterHandle → Row → Program Call Reply WriterOut → Type 0
    Then handle row program = Goes n good (rowed handle.writer row) (followed_by program after)

    index_told : (handle : WriterHandle) (row : Row) (rep : Reply) → ((why : Refusal) → rep ≡ reply.Refused why → ⊥) → ((count : ℕ) → rep ≡ reply.Synced count → MayLeave row) → Then handle row (if_synced handle rep)
    index_told handle row (reply.Synced count) unrefused leaves = kept (synced_of count handle) row count (leaves count refl)
    index_told handle row (reply.Refused why) unrefused leaves = absurd (unrefused why refl)
    index_told handle row (reply.Damaged folder file) unrefused leaves = lost handle row (trouble (reply.Damaged folder file)) tt
    index_told handle row rep unrefused leaves = lost handle row (trouble rep) tt

    index_goes : (handle : WriterHandle) (row : Row) → row.stage ≡ stage.Open → length row.pending.entries ≡ 0 → row.log_mark ≡ row.stored → Then handle row (syncs_index handle)
    index_goes handle row open_is empty log = λ m next rep s has.
        let k : SyncedOwn n handle.writer row rep next.state = sync_index_own n handle.writer row m.state rep next.state has s.answers in
        let marked = k.is_marked in
        let open_then : marked.after.stage ≡ stage.Open = stays_open n handle.writer (SyncIndex handle.writer) row marked.after m.state next.state rep refl has open_is s.answers marked.has in (
          rowed handle.writer marked.after,
          marked.has,
          index_told handle marked.after rep (λ why is. unlacking handle.writer row m why has open_is (s.reason why is)) (λ count is. record {
            is_open = open_then;
            empty = marked.pending ∙ empty;
            log = k.log_mark ∙ log ∙ sym marked.stored;
            index = k.synced count is ∙ k.number count is ∙ sym marked.landed;
          }),
        )

    flush_told : (handle : WriterHandle) (row : Row) (rep : Reply) → row.stage ≡ stage.Open → row.log_mark ≡ row.stored → ((why : Refusal) → rep ≡ reply.Refused why → ⊥) → ((count : ℕ) → rep ≡ reply.Flushed count → length row.pending.entries ≡ 0) → Then handle row (if_flushed handle (syncs_index (flushed_of handle)) rep)
    flush_told handle row (reply.Flushed count) open_is log unrefused empties = index_goes (flushed_of handle) row open_is (empties count refl) log
    flush_told handle row (reply.Refused why) open_is log unrefused empties = absurd (unrefused why refl)
    flush_told handle row (reply.Damaged folder file) open_is log unrefused empties = lost handle row (trouble (reply.Damaged folder file)) tt
    flush_told handle row rep open_is log unrefused empties = lost handle row (trouble rep) tt

    flush_goes : (handle : WriterHandle) (row : Row) → row.stage ≡ stage.Open → row.log_mark ≡ row.stored → Then handle row (flush_then handle (syncs_index (flushed_of handle)))
    flush_goes handle row open_is log = λ m next rep s has.
        let k : FlushedOwn n handle.writer row rep next.state = flush_own n handle.writer row m.state rep next.state has s.answers in
        let open_then : k.after.stage ≡ stage.Open = stays_open n handle.writer (Flush handle.writer) row k.after m.state next.state rep refl has open_is s.answers k.has in
        (rowed handle.writer k.after, k.has, flush_told handle k.after rep open_then (k.log_mark ∙ log ∙ sym k.stored) (λ why is. unlacking handle.writer row m why has open_is (s.reason why is)) k.empty)

    log_told : (handle : WriterHandle) (row : Row) (rep : Reply) → row.stage ≡ stage.Open → handle.pending ≡ length row.pending.entries → ((why : Refusal) → rep ≡ reply.Refused why → ⊥) → (rep ≡ reply.Done → row.log_mark ≡ row.stored) → Then handle row (if_log_synced handle rep)
    log_told handle row reply.Done open_is pending unrefused marks = elim (nat_eq handle.pending 0) as (λ b. nat_eq handle.pending 0 ≡ b → Then handle row (if b then syncs_index handle else flush_then handle (syncs_index (flushed_of handle)))) [
      | true ↦ λ t. index_goes handle row open_is (none t) (marks refl)
      | false ↦ λ f. flush_goes handle row open_is (marks refl)
    ] refl
      where
        none : nat_eq handle.pending 0 ≡ true → length row.pending.entries ≡ 0
        none t = let zero_is : handle.pending ≡ 0 = grind (arith, nat_tests) in sym pending ∙ zero_is
    log_told handle row (reply.Refused why) open_is pending unrefused marks = absurd (unrefused why refl)
    log_told handle row (reply.Damaged folder file) open_is pending unrefused marks = lost handle row (trouble (reply.Damaged folder file)) tt
    log_told handle row rep open_is pending unrefused marks = lost handle row (trouble rep) tt

    synced_goes : (handle : WriterHandle) (row : Row) → row.stage ≡ stage.Open → handle.pending ≡ length row.pending.entries → Then handle row (sync_program handle)
    synced_goes handle row open_is pending = λ m next rep s has.
        let k : LogSyncedOwn n handle.writer row rep next.state = sync_log_own n handle.writer row m.state rep next.state has s.answers in
        let marked = k.is_marked in
        let open_then : marked.after.stage ≡ stage.Open = stays_open n handle.writer (SyncLog handle.writer) row marked.after m.state next.state rep refl has open_is s.answers marked.has in
        (rowed handle.writer marked.after, marked.has, log_told handle marked.after rep open_then (pending ∙ sym marked.pending) (λ why is. unlacking handle.writer row m why has open_is (s.reason why is)) k.synced)

  -- ---- a sync by itself

  -- it isn't refused
  abbrev pub Unrefused : WriterOut → Type 0
  Unrefused out = EndsSo (λ (count : ℕ). Unit {0}) never_refused out.result

  alone : {R : Type 0} (good : R → Type 0) (fact : Fact) (p : Program Call Reply R) → Goes n good fact (followed_by p (λ r. done r)) → Goes n good fact p
  alone good fact (done r) goes = goes
  alone good fact (ask q k) goes = λ m next rep s so. (let g = goes m next rep s so in (g.0, g.1, alone good g.0 (k rep) g.2))

  pub open_sync_goes : (handle : WriterHandle) (row : Row) → row.stage ≡ stage.Open → handle.pending ≡ length row.pending.entries → Goes n Unrefused (rowed handle.writer row) (sync_program handle)
  open_sync_goes handle row open_is pending = alone Unrefused (rowed handle.writer row) (sync_program handle) (synced_goes Unrefused (λ out. done out) (λ left stood count leaves. tt) (λ left stood why fine. fine) handle row open_is pending)

  -- ---- a close

  left_told : (handle : WriterHandle) (rep : Reply) → ((why : Refusal) → rep ≡ reply.Refused why → ⊥) → Goes n Unrefused anything (if_left handle rep)
  left_told handle reply.Done unrefused = tt
  left_told handle reply.Fault unrefused = tt
  left_told handle (reply.Refused why) unrefused = unrefused why refl
  left_told handle (reply.Damaged folder file) unrefused = tt
  left_told handle rep unrefused = tt

  leaves_fine : (row : Row) → row.has_meta ≡ true → exit_check row ≡ None
  leaves_fine row has = by (nat_lt 0 row.stored) row.has_meta has
    where
      by : (a b : Bool) → b ≡ true → (if a && not b then Some refusal.NoMeta else None) ≡ None
      by a b is = subst (λ x. (if a && not x then Some refusal.NoMeta else None) ≡ None) (sym is) (any a)
        where
          any : (x : Bool) → (if x && not true then Some refusal.NoMeta else None) ≡ None
          any true = refl
          any false = refl

  exit_goes : (handle : WriterHandle) (row : Row) → is_live row.stage ≡ true → row.has_meta ≡ true → Goes n Unrefused (rowed handle.writer row) (exits handle)
  exit_goes handle row live has_meta = λ m next rep s has. (anything, tt, left_told handle rep (λ why is. refused m rep next s has why is))
    where
      refused : (m : Moment) (rep : Reply) (next : Moment) → Stepped n m (Exit handle.writer) rep next → HasRow n handle.writer row m.state → (why : Refusal) → rep ≡ reply.Refused why → ⊥
      refused m rep next s has why is = elim (s.reason why is) as (λ _. ⊥) [
        | inl lacks ↦ lacks_not n handle.writer is_live row m.state why has live lacks
        | inr found ↦ checks_not exit_check row found.0 (writer_of n is_live handle.writer m.state.table.writers) why (finds n handle.writer is_live row m.state has live) found.1 (leaves_fine row has_meta) found.2
      ]

  puts_fine : (row : Row) → MayLeave row → put_meta_check row ≡ None
  puts_fine row l = rw (few, log, index) refl
    where
      few : nat_lt 0 (length row.pending.entries) ≡ false
      few = let none : length row.pending.entries ≡ 0 = l.empty in grind (arith, nat_tests)

      log : nat_eq row.log_mark row.stored ≡ true
      log = let same : row.log_mark ≡ row.stored = l.log in grind (arith, nat_tests)

      index : nat_eq row.index_mark row.landed ≡ true
      index = let same : row.index_mark ≡ row.landed = l.index in grind (arith, nat_tests)

  put_told : (handle : WriterHandle) (row : Row) (rep : Reply) → ((why : Refusal) → rep ≡ reply.Refused why → ⊥) → (rep ≡ reply.Done → (is_live row.stage ≡ true) × (row.has_meta ≡ true)) → Goes n Unrefused (rowed handle.writer row) (if_put handle rep)
  put_told handle row reply.Done unrefused closes = let c = closes refl in exit_goes handle row c.0 c.1
  put_told handle row (reply.Refused why) unrefused closes = unrefused why refl
  put_told handle row (reply.Damaged folder file) unrefused closes = tt
  put_told handle row rep unrefused closes = tt

  meta_goes : (handle : WriterHandle) (row : Row) → MayLeave row → Goes n Unrefused (rowed handle.writer row) (puts_meta handle)
  meta_goes handle row l = λ m next rep s has.
      let k : MetaOwn n handle.writer row next.state = put_meta_own n handle.writer row m.state rep next.state has s.answers in (
        rowed handle.writer k.after,
        k.has,
        put_told (closing_of handle) k.after rep (λ why is. refused m rep next s has why is) (λ is. (
          meta_put (λ r. is_live r.stage ≡ true) (λ r. refl) n handle.writer m.state next.state rep s.answers is k.after k.has,
          meta_put (λ r. r.has_meta ≡ true) (λ r. refl) n handle.writer m.state next.state rep s.answers is k.after k.has,
        )),
      )
    where
      refused : (m : Moment) (rep : Reply) (next : Moment) → Stepped n m (PutMeta handle.writer) rep next → HasRow n handle.writer row m.state → (why : Refusal) → rep ≡ reply.Refused why → ⊥
      refused m rep next s has why is = elim (s.reason why is) as (λ _. ⊥) [
        | inl lacks ↦ lacks_not n handle.writer may_close row m.state why has (open_may_close row l.is_open) lacks
        | inr found ↦ checks_not put_meta_check row found.0 (writer_of n may_close handle.writer m.state.table.writers) why (finds n handle.writer may_close row m.state has (open_may_close row l.is_open)) found.1 (puts_fine row l) found.2
      ]

  pub open_close_goes : (handle : WriterHandle) (row : Row) → row.stage ≡ stage.Open → handle.pending ≡ length row.pending.entries → Goes n Unrefused (rowed handle.writer row) (close_from false handle)
  open_close_goes handle row open_is pending = synced_goes Unrefused then_closes (λ left stood count leaves. meta_goes left stood leaves) (λ left stood why fine. fine) handle row open_is pending

  -- ---- a write

  -- it may be refused so
  abbrev pub RefusedByPlace : WriterOut → Type 0
  RefusedByPlace out = EndsSo (λ (stamp : ℕ). Unit {0}) IsOfPlace out.result

  of_place : (far spent filled : Bool) (why : Refusal) → filled ≡ false → (if far then Some refusal.TooFar else if spent then Some refusal.StampsSpent else if filled then Some refusal.Full else None) ≡ Some why → IsOfPlace why
  of_place true spent filled why room is = subst IsOfPlace (one_refusal refusal.TooFar why is) tt
  of_place false true filled why room is = subst IsOfPlace (one_refusal refusal.StampsSpent why is) tt
  of_place false false true why room is = absurd (cc)
  of_place false false false why room is = absurd (cc)

  wrote_told : (handle : WriterHandle) (rep : Reply) → ((why : Refusal) → rep ≡ reply.Refused why → IsOfPlace why) → Goes n RefusedByPlace anything (if_wrote handle rep)
  wrote_told handle (reply.Wrote stamp) each = tt
  wrote_told handle (reply.Refused why) each = each why refl
  wrote_told handle (reply.Damaged folder file) each = tt
  wrote_told handle rep each = tt

  writes_goes : (handle : WriterHandle) (row : Row) (at : ℕ) (block : List ℕ) → row.stage ≡ stage.Open → length row.pending.entries < row.pending.capacity → Goes n RefusedByPlace (rowed handle.writer row) (writes handle at block)
  writes_goes handle row at block open_is room = λ m next rep s has. (anything, tt, wrote_told handle rep (λ why is. refused m rep next s has why is))
    where
      free : nat_le row.pending.capacity (length row.pending.entries) ≡ false
      free = grind (arith, nat_tests)

      checked : (r : Row) (why : Refusal) → r ≡ row → write_check r at (length block) ≡ Some why → IsOfPlace why
      checked r why same is = of_place (nat_lt MAX_SIZE (at + length block) || nat_lt MAX_LOG (row.stored + length block)) (nat_le MAX_STAMP row.last || nat_le MAX_STAMP row.floor) (nat_le row.pending.capacity (length row.pending.entries)) why free (subst (λ (x : Row). write_check x at (length block) ≡ Some why) same is)

      refused : (m : Moment) (rep : Reply) (next : Moment) → Stepped n m (Write handle.writer at block) rep next → HasRow n handle.writer row m.state → (why : Refusal) → rep ≡ reply.Refused why → IsOfPlace why
      refused m rep next s has why is = elim (s.reason why is) as (λ _. IsOfPlace why) [
        | inl lacks ↦ absurd (unlacking handle.writer row m why has open_is lacks)
        | inr found ↦ checked found.0 why (one_row found.0 row (writer_of n (only stage.Open) handle.writer m.state.table.writers) found.1 (finds n handle.writer (only stage.Open) row m.state has (open_only row open_is))) found.2
      ]

  flushed_told : (handle : WriterHandle) (row : Row) (at : ℕ) (block : List ℕ) (rep : Reply) → row.stage ≡ stage.Open → 1 ≤ row.pending.capacity → ((why : Refusal) → rep ≡ reply.Refused why → ⊥) → ((count : ℕ) → rep ≡ reply.Flushed count → length row.pending.entries ≡ 0)
      → Goes n RefusedByPlace (rowed handle.writer row) (if_flushed handle (writes (flushed_of handle) at block) rep)
  flushed_told handle row at block (reply.Flushed count) open_is some unrefused empties = writes_goes (flushed_of handle) row at block open_is (let none = empties count refl in omega (arith, some, none))
  flushed_told handle row at block (reply.Refused why) open_is some unrefused empties = absurd (unrefused why refl)
  flushed_told handle row at block (reply.Damaged folder file) open_is some unrefused empties = tt
  flushed_told handle row at block rep open_is some unrefused empties = tt

  pub open_write_goes : (handle : WriterHandle) (row : Row) (at : ℕ) (block : List ℕ) → row.stage ≡ stage.Open → handle.pending ≡ length row.pending.entries → row.pending.capacity ≡ handle.cap → Goes n RefusedByPlace (rowed handle.writer row) (write_program handle at block)
  open_write_goes handle row at block open_is pending capacity =
      elim (nat_le handle.cap handle.pending) as (λ b. nat_le handle.cap handle.pending ≡ b → Goes n RefusedByPlace (rowed handle.writer row) (if b then flush_then handle (writes (flushed_of handle) at block) else writes handle at block)) [
        | true ↦ λ full m next rep s has.
            let k : FlushedOwn n handle.writer row rep next.state = flush_own n handle.writer row m.state rep next.state has s.answers in
            let open_then : k.after.stage ≡ stage.Open = stays_open n handle.writer (Flush handle.writer) row k.after m.state next.state rep refl has open_is s.answers k.has in
            let counted : IsCounted k.after = row_of_all IsCounted handle.writer next.state.table.writers k.after s.sound_then.regular.counted k.has.there in
            (rowed handle.writer k.after, k.has, flushed_told handle k.after at block rep open_then counted.some_cap (λ why is. unlacking handle.writer row m why has open_is (s.reason why is)) k.empty)
        | false ↦ λ room. writes_goes handle row at block open_is (let few : handle.pending < handle.cap = grind (arith, nat_tests) in omega (arith, few, pending, capacity))
      ] refl
