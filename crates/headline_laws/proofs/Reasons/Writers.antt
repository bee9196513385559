-- Which refusals the programs of an actor's writer end in, whatever is answered.
use Rattle.std.proofs.Common.{◌≡◌, ◌≤◌, ◌+◌, inl, inr, ℕ, Bool, true, false, nat_eq, nat_le, nat_lt, List, length, Some, None, Ok, Err, refl, sym, subst, arith, if◌then◌else◌}
use Rattle.std.specs.Prelude.{◌||◌, ◌&&◌, ◌==◌, not}
use Rattle.std.proofs.lemmas.Bool.Decides.{nat_tests}
use Rattle.plfs_types.specs.declared.limits.TheConstants.{MAX_LOG, MAX_SIZE, MAX_STAMP}
use Rattle.mount_model.specs.Program.{Program, followed_by}
use Rattle.mount_model.specs.declared.call.Call.{Call}
use Rattle.mount_model.specs.declared.call.Call.TheVariants.{Exit, Flush, PutMeta, Write}
use Rattle.mount_model.specs.declared.reply.Refusal.{Refusal}
use Rattle.mount_model.specs.declared.reply.Refusal.TheVariants as refusal
use Rattle.mount_model.specs.declared.reply.Reply.{Reply}
use Rattle.mount_model.specs.declared.reply.Reply.TheVariants as reply
use Rattle.mount_model.specs.declared.row.Stage.TheVariants as stage
use Rattle.mount_model.specs.Table.{only, writer_of}
use Rattle.mount_model.specs.Writing.{write_check}
use Rattle.mount_model.proofs.Facts.{match_cases}
use Rattle.mount_model.specs.declared.stuck.Stuck.{Stuck}
use Rattle.writer_flow.specs.declared.handle.WriterHandle.{WriterHandle}
use Rattle.writer_flow.specs.declared.handle.WriterOut.{WriterOut}
use Rattle.writer_flow.specs.Closing.{after_sync as then_closes, close_from, close_program, if_left, if_put, puts_meta}
use Rattle.writer_flow.specs.Ending.{failed, stays_with, trouble}
use Rattle.writer_flow.specs.Handle.{closing_of, flushed_of, synced_of}
use Rattle.writer_flow.specs.Syncing.{if_log_synced, if_synced, sync_program, syncs_index}
use Rattle.writer_flow.specs.Writing.{flush_then, if_flushed, if_wrote, write_program, writes}
use Rattle.reader_laws.specs.Moments.{Moment}
use Rattle.headline_laws.proofs.Reasons.Goes.{EndsSo, Goes, IsTroubleSo, Stepped, anything}

-- a trouble is such a refusal, or none
pub trouble_so : (fine : Refusal → Type 0) (rep : Reply) → ((why : Refusal) → rep ≡ reply.Refused why → fine why) → IsTroubleSo fine (trouble rep)
trouble_so fine (reply.Refused why) each = each why refl
trouble_so fine (reply.Damaged folder file) each = tt
trouble_so fine rep each = tt

-- ---- what a writer's calls are refused for

-- a write ends within the greatest size, unless it is refused as too far
abbrev pub MayRefuseWrite : ℕ → Refusal → Type 0
MayRefuseWrite end refusal.TooFar = Unit {0}
MayRefuseWrite end refusal.StampsSpent = end ≤ MAX_SIZE
MayRefuseWrite end refusal.NotOpen = Unit {0}
MayRefuseWrite end refusal.Full = Unit {0}
MayRefuseWrite end other = ⊥

-- what has not the writer open, or not yet all that it is asked for
abbrev pub IsNotOpen : Refusal → Type 0
IsNotOpen refusal.NotOpen = Unit {0}
IsNotOpen refusal.NotFlushed = Unit {0}
IsNotOpen refusal.NoMeta = Unit {0}
IsNotOpen other = ⊥

module _ (n : ℕ) where
  -- ---- a write

  checked : (end : ℕ) (far full spent filled : Bool) (why : Refusal) → (far ≡ false → end ≤ MAX_SIZE) → (if far || full then Some refusal.TooFar else if spent then Some refusal.StampsSpent else if filled then Some refusal.Full else None) ≡ Some why → MayRefuseWrite end why
  checked end true full spent filled why near is = (let same : refusal.TooFar ≡ why = cc in subst (MayRefuseWrite end) same tt)
  checked end false true spent filled why near is = (let same : refusal.TooFar ≡ why = cc in subst (MayRefuseWrite end) same tt)
  checked end false false true filled why near is = (let same : refusal.StampsSpent ≡ why = cc in subst (MayRefuseWrite end) same (near refl))
  checked end false false false true why near is = (let same : refusal.Full ≡ why = cc in subst (MayRefuseWrite end) same tt)
  checked end false false false false why near is = absurd (cc)

  passed : (end : ℕ) (far full spent filled : Bool) → (far ≡ false → end ≤ MAX_SIZE) → (if far || full then Some refusal.TooFar else if spent then Some refusal.StampsSpent else if filled then Some refusal.Full else None) ≡ None → end ≤ MAX_SIZE
  passed end true full spent filled near is = absurd (cc)
  passed end false full spent filled near is = near refl

  not_far : (end : ℕ) → nat_lt MAX_SIZE end ≡ false → end ≤ MAX_SIZE
  not_far end is = grind (arith, nat_tests)

  write_reason : (w at : ℕ) (block : List ℕ) (m next : Moment) (rep : Reply) (why : Refusal) → Stepped n m (Write w at block) rep next → rep ≡ reply.Refused why → MayRefuseWrite (at + length block) why
  write_reason w at block m next rep why s is = elim (s.reason why is) as (λ _. MayRefuseWrite (at + length block) why) [
    | inl none ↦ subst (MayRefuseWrite (at + length block)) (sym none.0) tt
    | inr has ↦ checked (at + length block) (nat_lt MAX_SIZE (at + length block)) (nat_lt MAX_LOG (has.0.stored + length block)) (nat_le MAX_STAMP has.0.last || nat_le MAX_STAMP has.0.floor) (nat_le has.0.pending.capacity (length has.0.pending.entries)) why (not_far (at + length block)) has.2
  ]

  wrote_within : (w at : ℕ) (block : List ℕ) (m next : Moment) (stamp : ℕ) → Stepped n m (Write w at block) (reply.Wrote stamp) next → at + length block ≤ MAX_SIZE
  wrote_within w at block m next stamp s = elim (match_cases (writer_of n (only stage.Open) w m.state.table.writers) _ _ s.answers) as (λ _. at + length block ≤ MAX_SIZE) [
    | inl (none, refused) ↦ absurd (let clash : reply.Wrote stamp ≡ reply.Refused refusal.NotOpen = refused.0 in cc)
    | inr (row, has, does) ↦ elim (match_cases (write_check row at (length block)) _ _ does) as (λ _. at + length block ≤ MAX_SIZE) [
      | inr (why, some, refused) ↦ absurd (let clash : reply.Wrote stamp ≡ reply.Refused why = refused.0 in cc)
      | inl (none, wrote) ↦ passed (at + length block) (nat_lt MAX_SIZE (at + length block)) (nat_lt MAX_LOG (row.stored + length block)) (nat_le MAX_STAMP row.last || nat_le MAX_STAMP row.floor) (nat_le row.pending.capacity (length row.pending.entries)) (not_far (at + length block)) none
    ]
  ]

  module _ (good : ℕ → Type 0) (fine : Refusal → Type 0) where
    abbrev pub OutSo : WriterOut → Type 0
    OutSo out = EndsSo good fine out.result

    -- a flush that fails ends it
    flushed_goes : (handle : WriterHandle) (program : Program Call Reply WriterOut) → fine refusal.NotOpen → Goes n OutSo anything program → (m next : Moment) (rep : Reply) → Stepped n m (Flush handle.writer) rep next → Goes n OutSo anything (if_flushed handle program rep)
    flushed_goes handle program unopened goes m next (reply.Flushed landed) s = goes
    flushed_goes handle program unopened goes m next (reply.Refused why) s = subst fine (sym (s.reason why refl).0) unopened
    flushed_goes handle program unopened goes m next rep s = tt

    flush_goes : (handle : WriterHandle) (program : Program Call Reply WriterOut) → fine refusal.NotOpen → Goes n OutSo anything program → Goes n OutSo anything (flush_then handle program)
    flush_goes handle program unopened goes = λ m next rep s so. (anything, tt, flushed_goes handle program unopened goes m next rep s)

  -- it ended within the greatest size, or with such a refusal
  abbrev pub WroteSo : ℕ → WriterOut → Type 0
  WroteSo end = OutSo (λ (stamp : ℕ). end ≤ MAX_SIZE) (MayRefuseWrite end)

  wrote_goes : (at : ℕ) (block : List ℕ) (handle : WriterHandle) (m next : Moment) (rep : Reply) → Stepped n m (Write handle.writer at block) rep next → Goes n (WroteSo (at + length block)) anything (if_wrote handle rep)
  wrote_goes at block handle m next (reply.Wrote stamp) s = wrote_within handle.writer at block m next stamp s
  wrote_goes at block handle m next (reply.Refused why) s = write_reason handle.writer at block m next (reply.Refused why) why s refl
  wrote_goes at block handle m next rep s = tt

  writes_go : (at : ℕ) (block : List ℕ) (handle : WriterHandle) → Goes n (WroteSo (at + length block)) anything (writes handle at block)
  writes_go at block handle = λ m next rep s so. (anything, tt, wrote_goes at block handle m next rep s)

  pub write_goes : (at : ℕ) (block : List ℕ) (handle : WriterHandle) → Goes n (WroteSo (at + length block)) anything (write_program handle at block)
  write_goes at block handle = elim (nat_le handle.cap handle.pending) as (λ b. Goes n (WroteSo (at + length block)) anything (if b then flush_then handle (writes (flushed_of handle) at block) else writes handle at block)) [
    | true ↦ flush_goes (λ (stamp : ℕ). at + length block ≤ MAX_SIZE) (MayRefuseWrite (at + length block)) handle (writes (flushed_of handle) at block) tt (writes_go at block (flushed_of handle))
    | false ↦ writes_go at block handle
  ]

  -- ---- a sync and a close

  -- it ended so, or is refused since the writer isn't open
  abbrev pub SyncedSo : WriterOut → Type 0
  SyncedSo = OutSo (λ (count : ℕ). Unit {0}) IsNotOpen

  abbrev GoesOn : Program Call Reply WriterOut → Type 0
  GoesOn program = Goes n SyncedSo anything program

  -- what follows a sync goes on so too
  module _ (after : WriterOut → Program Call Reply WriterOut) (kept : (handle : WriterHandle) (count : ℕ) → GoesOn (after (stays_with handle (Ok count)))) (lost : (handle : WriterHandle) (why : Stuck) → IsTroubleSo IsNotOpen why → GoesOn (after (stays_with handle (Err why)))) where
    abbrev Then : Program Call Reply WriterOut → Type 0
    Then program = GoesOn (followed_by program after)

    fails : (handle : WriterHandle) (rep : Reply) → ((why : Refusal) → rep ≡ reply.Refused why → IsNotOpen why) → GoesOn (after (failed handle rep))
    fails handle rep each = lost handle (trouble rep) (trouble_so IsNotOpen rep each)

    no_writer : (why : Refusal) → why ≡ refusal.NotOpen → IsNotOpen why
    no_writer why is = subst IsNotOpen (sym is) tt

    index_goes : (handle : WriterHandle) (rep : Reply) → ((why : Refusal) → rep ≡ reply.Refused why → IsNotOpen why) → Then (if_synced handle rep)
    index_goes handle (reply.Synced count) each = kept (synced_of count handle) count
    index_goes handle rep each = fails handle rep each

    syncs_index_goes : (handle : WriterHandle) → Then (syncs_index handle)
    syncs_index_goes handle = λ m next rep s so. (anything, tt, index_goes handle rep (λ why is. no_writer why (s.reason why is).0))

    flush_then_goes : (handle : WriterHandle) (rep : Reply) → ((why : Refusal) → rep ≡ reply.Refused why → IsNotOpen why) → Then (if_flushed handle (syncs_index (flushed_of handle)) rep)
    flush_then_goes handle (reply.Flushed landed) each = syncs_index_goes (flushed_of handle)
    flush_then_goes handle rep each = fails handle rep each

    log_goes : (handle : WriterHandle) (rep : Reply) → ((why : Refusal) → rep ≡ reply.Refused why → IsNotOpen why) → Then (if_log_synced handle rep)
    log_goes handle reply.Done each = elim (nat_eq handle.pending 0) as (λ b. Then (if b then syncs_index handle else flush_then handle (syncs_index (flushed_of handle)))) [
      | true ↦ syncs_index_goes handle
      | false ↦ λ m next rep s so. (anything, tt, flush_then_goes handle rep (λ why is. no_writer why (s.reason why is).0))
    ]
    log_goes handle rep each = fails handle rep each

    synced_goes : (handle : WriterHandle) → Then (sync_program handle)
    synced_goes handle = λ m next rep s so. (anything, tt, log_goes handle rep (λ why is. no_writer why (s.reason why is).0))

  -- a sync by itself
  alone_fails : (handle : WriterHandle) (rep : Reply) → ((why : Refusal) → rep ≡ reply.Refused why → IsNotOpen why) → SyncedSo (failed handle rep)
  alone_fails handle rep each = trouble_so IsNotOpen rep each

  index_alone : (handle : WriterHandle) (rep : Reply) → ((why : Refusal) → rep ≡ reply.Refused why → IsNotOpen why) → GoesOn (if_synced handle rep)
  index_alone handle (reply.Synced count) each = tt
  index_alone handle rep each = alone_fails handle rep each

  syncs_alone : (handle : WriterHandle) → GoesOn (syncs_index handle)
  syncs_alone handle = λ m next rep s so. (anything, tt, index_alone handle rep (λ why is. subst IsNotOpen (sym (s.reason why is).0) tt))

  log_alone : (handle : WriterHandle) (rep : Reply) → ((why : Refusal) → rep ≡ reply.Refused why → IsNotOpen why) → GoesOn (if_log_synced handle rep)
  log_alone handle reply.Done each = elim (nat_eq handle.pending 0) as (λ b. GoesOn (if b then syncs_index handle else flush_then handle (syncs_index (flushed_of handle)))) [
    | true ↦ syncs_alone handle
    | false ↦ flush_goes (λ (count : ℕ). Unit {0}) IsNotOpen handle (syncs_index (flushed_of handle)) tt (syncs_alone (flushed_of handle))
  ]
  log_alone handle rep each = alone_fails handle rep each

  pub sync_goes : (handle : WriterHandle) → GoesOn (sync_program handle)
  sync_goes handle = λ m next rep s so. (anything, tt, log_alone handle rep (λ why is. subst IsNotOpen (sym (s.reason why is).0) tt))

  left_goes : (handle : WriterHandle) (rep : Reply) → ((why : Refusal) → rep ≡ reply.Refused why → IsNotOpen why) → GoesOn (if_left handle rep)
  left_goes handle reply.Done each = tt
  left_goes handle reply.Fault each = tt
  left_goes handle rep each = trouble_so IsNotOpen rep each

  exit_reason : (w : ℕ) (m next : Moment) (rep : Reply) (why : Refusal) → Stepped n m (Exit w) rep next → rep ≡ reply.Refused why → IsNotOpen why
  exit_reason w m next rep why s is = elim (s.reason why is) as (λ _. IsNotOpen why) [
    | inl none ↦ subst IsNotOpen (sym none.0) tt
    | inr has ↦ unmarked (nat_lt 0 has.0.stored && not has.0.has_meta) why has.2
  ]
    where
      unmarked : (b : Bool) (why : Refusal) → (if b then Some refusal.NoMeta else None) ≡ Some why → IsNotOpen why
      unmarked true why is = (let same : refusal.NoMeta ≡ why = cc in subst IsNotOpen same tt)
      unmarked false why is = absurd (cc)

  put_goes : (handle : WriterHandle) (rep : Reply) → ((why : Refusal) → rep ≡ reply.Refused why → IsNotOpen why) → GoesOn (if_put handle rep)
  put_goes handle reply.Done each = λ m next rep s so. (anything, tt, left_goes handle rep (λ why is. exit_reason handle.writer m next rep why s is))
  put_goes handle rep each = trouble_so IsNotOpen rep each

  put_reason : (w : ℕ) (m next : Moment) (rep : Reply) (why : Refusal) → Stepped n m (PutMeta w) rep next → rep ≡ reply.Refused why → IsNotOpen why
  put_reason w m next rep why s is = elim (s.reason why is) as (λ _. IsNotOpen why) [
    | inl none ↦ subst IsNotOpen (sym none.0) tt
    | inr has ↦ unflushed (nat_lt 0 (length has.0.pending.entries) || not (has.0.log_mark == has.0.stored) || not (has.0.index_mark == has.0.landed)) why has.2
  ]
    where
      unflushed : (b : Bool) (why : Refusal) → (if b then Some refusal.NotFlushed else None) ≡ Some why → IsNotOpen why
      unflushed true why is = (let same : refusal.NotFlushed ≡ why = cc in subst IsNotOpen same tt)
      unflushed false why is = absurd (cc)

  meta_goes : (handle : WriterHandle) → GoesOn (puts_meta handle)
  meta_goes handle = λ m next rep s so. (anything, tt, put_goes (closing_of handle) rep (λ why is. put_reason handle.writer m next rep why s is))

  pub close_goes : (handle : WriterHandle) → GoesOn (close_program handle)
  close_goes handle = elim handle.closing as (λ b. GoesOn (close_from b handle)) [
    | true ↦ meta_goes handle
    | false ↦ synced_goes then_closes (λ left count. meta_goes left) (λ left why is. is) handle
  ]
