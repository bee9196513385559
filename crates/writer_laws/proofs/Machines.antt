-- What a sync and a write leave, where others call in between.
use Rattle.std.proofs.Common.{◌≡◌, ◌≢◌, ℕ, ◌+◌, List, [], ◌∷◌, length, refl, sym, ap, ◌∙◌, inl, inr, subst, arith, true, false, nat_eq}
use Rattle.std.specs.Prelude.{if◌then◌else◌, nat_le, Result, Ok, Err}
use Rattle.std.proofs.lemmas.Bool.Decides.{nat_tests}
use Rattle.mount_model.specs.declared.stuck.Stuck.{Stuck}
use Rattle.mount_model.specs.Program.{Program, done, ask}
use Rattle.mount_model.specs.declared.call.Ask.{Ask}
use Rattle.mount_model.specs.declared.call.Call.{Call}
use Rattle.mount_model.specs.declared.call.Call.TheVariants as call
use Rattle.mount_model.specs.declared.reply.Reply.{Reply}
use Rattle.mount_model.specs.declared.reply.Reply.TheVariants as reply
use Rattle.mount_model.specs.declared.row.Row.{Row}
use Rattle.mount_model.specs.State.{State}
use Rattle.mount_model.specs.History.{Event, state_after}
use Rattle.mount_model.specs.Step.{Answers, IsStep}
use Rattle.mount_sound.specs.Owed.{IsLawful}
use Rattle.writer_flow.specs.declared.handle.WriterHandle.{WriterHandle}
use Rattle.writer_flow.specs.declared.handle.WriterOut.{WriterOut}
use Rattle.writer_flow.specs.Handle.{flushed_of, one_more_of, synced_of}
use Rattle.writer_flow.specs.Ending.{stays_with, trouble}
use Rattle.writer_flow.specs.Writing.{if_flushed, if_wrote, writes, write_program}
use Rattle.writer_flow.specs.Syncing.{if_synced, syncs_index, flushes_and_syncs, if_log_synced, sync_program}
use Rattle.mount_model.specs.Running.{Runs}
use Rattle.writer_laws.specs.Counting.{entry_count}
use Rattle.writer_laws.specs.Knowing.{HasRow, Knows, KeepsHandle, IsSynced}
use Rattle.writer_laws.proofs.Stops.{whole_answers, spared_row}
use Rattle.mount_model.proofs.Flows.Facts.{runs_next, runs_done}
use Rattle.writer_laws.proofs.Own.{sync_log_own, sync_index_own, flush_own, FlushedOwn, write_own, WroteOwn}

-- handles of one writer, both closing or neither
abbrev Alike : WriterHandle → WriterHandle → Type 0
Alike first handle = (first.writer ≡ handle.writer) × (handle.closing ≡ first.closing)

-- another caller's call leaves the very row
pub other_keeps : (me w : ℕ) (row : Row) (start : State) (event : Event) → event.caller ≢ me → HasRow me w row start → IsStep start event.caller event.ask event.reply event.after → HasRow me w row event.after
other_keeps me w row start event other h step = spared_row me w row start event.caller event.ask event.reply event.after (λ mine. absurd (other mine)) h step

-- The program's next call was made, from a state in which the row is as before.
pub record Reached {R : Type 0} (me w : ℕ) (row : Row) (q : Call) (k : Reply → Program Call Reply R) (last : State) (out : R) : Type 0 where
  pub mid : State
  pub rep : Reply
  pub next : State
  pub rest : List Event
  pub has : HasRow me w row mid
  pub answers : Answers mid me q rep next
  pub legal : IsLawful next rest
  pub runs : Runs me (k rep) rest out
  pub ends : state_after next rest ≡ last

pub reached : {R : Type 0} (me w : ℕ) (row : Row) (q : Call) (k : Reply → Program Call Reply R) (start : State) (events : List Event) (out : R) → HasRow me w row start → IsLawful start events → Runs me (ask q k) events out → Reached me w row q k (state_after start events) out
reached me w row q k start [] out h l r = absurd r
reached {R} me w row q k start (event ∷ events) out h l r = elim (runs_next me q k event events out r) as (λ _. Reached me w row q k (state_after event.after events) out) [
  | inl (other, r') ↦ reached me w row q k event.after events out (other_keeps me w row start event other h l.1) l.2 r'
  | inr (mine, asked, r') ↦ record {
    mid = start;
    rep = event.reply;
    next = event.after;
    rest = events;
    has = h;
    answers = subst (λ c. Answers start me c event.reply event.after) (ap (λ (a : Ask). a.call) asked) (subst (λ n. Answers start n event.ask.call event.reply event.after) mine (whole_answers start event.caller event.ask event.reply event.after (ap (λ (a : Ask). a.stop) asked) l.1));
    legal = l.2;
    runs = r';
    ends = refl;
  }
]

-- The program is over, and the row stays.
pub finished : {R : Type 0} (me w : ℕ) (row : Row) (r : R) (start : State) (events : List Event) (out : R) → HasRow me w row start → IsLawful start events → Runs me (done r) events out → HasRow me w row (state_after start events) × (r ≡ out)
finished me w row r start [] out h l e = (h, e.1)
finished {R} me w row r start (event ∷ events) out h l e = let more = runs_done me r event events out e in finished me w row r event.after events out (other_keeps me w row start event more.0 h l.1) l.2 more.1

-- ---- a sync

ok_same : (n m : ℕ) (a b : Result ℕ Stuck) → a ≡ Ok m → a ≡ b → b ≡ Ok n → n ≡ m
ok_same n m a b e f g = cc

never_ok : (n : ℕ) (why : Stuck) (a b : Result ℕ Stuck) → a ≡ Err why → a ≡ b → b ≡ Ok n → ⊥
never_ok n why a b e f g = cc

-- it failed, and the handle and the row are these
sync_failed : (me : ℕ) (handle first : WriterHandle) (row : Row) (total : ℕ) (why : Stuck) (start : State) (events : List Event) (out : WriterOut) → Alike first handle → Knows me handle row start → entry_count row ≡ total → IsLawful start events → Runs me (done (stays_with handle (Err why))) events out → IsSynced me first total out (state_after start events)
sync_failed me handle first row total why start events out same k t l r =
    let f = finished me handle.writer row (stays_with handle (Err why)) start events out k.has l r in
    record {
      handle = handle;
      row = row;
      kept = sym (ap (λ (o : WriterOut). o.handle) f.1);
      same = sym same.0;
      closing_is = same.1;
      knows = record { has = f.0; pending = k.pending };
      total = t;
      number = λ n e. absurd (never_ok n why (Err why) out.result refl (ap (λ (o : WriterOut). o.result) f.1) e);
      marked = λ n e. absurd (never_ok n why (Err why) out.result refl (ap (λ (o : WriterOut). o.result) f.1) e);
    }

-- the reply to SyncIndex has come
after_index : (me : ℕ) (handle first : WriterHandle) (row : Row) (total : ℕ) (rep : Reply) (start : State) (events : List Event) (out : WriterOut) → Alike first handle → Knows me handle row start → entry_count row ≡ total → row.landed ≡ total → ((n : ℕ) → rep ≡ reply.Synced n → n ≡ row.landed) → ((n : ℕ) → rep ≡ reply.Synced n → row.index_mark ≡ n) → row.log_mark ≡ row.stored → IsLawful start events → Runs me (if_synced handle rep) events out → IsSynced me first total out (state_after start events)
after_index me handle first row total (reply.Synced n) start events out same k t all said marks logs l r =
    let f = finished me handle.writer row (stays_with (synced_of n handle) (Ok n)) start events out k.has l r in
    let number : n ≡ row.landed = said n refl in
    record {
      handle = synced_of n handle;
      row = row;
      kept = sym (ap (λ (o : WriterOut). o.handle) f.1);
      same = sym same.0;
      closing_is = same.1;
      knows = record { has = f.0; pending = k.pending };
      total = t;
      number = λ m e. let is : m ≡ n = ok_same m n (Ok n) out.result refl (ap (λ (o : WriterOut). o.result) f.1) e in (omega arith, sym is, omega arith);
      marked = λ m e. let is : m ≡ n = ok_same m n (Ok n) out.result refl (ap (λ (o : WriterOut). o.result) f.1) e in (marks n refl ∙ sym is, logs);
    }
after_index me handle first row total rep start events out same k t all said marks logs l r = sync_failed me handle first row total (trouble rep) start events out same k t l r

-- SyncIndex is to be made, and nothing is pending
before_index : (me : ℕ) (handle first : WriterHandle) (row : Row) (total : ℕ) (start : State) (events : List Event) (out : WriterOut) → Alike first handle → Knows me handle row start → entry_count row ≡ total → handle.pending ≡ 0 → row.log_mark ≡ row.stored → IsLawful start events → Runs me (syncs_index handle) events out → IsSynced me first total out (state_after start events)
before_index me handle first row total start events out same k t none logs l r =
    let g = reached me handle.writer row (call.SyncIndex handle.writer) (if_synced handle) start events out k.has l r in
    let o = sync_index_own me handle.writer row g.mid g.rep g.next g.has g.answers in
    let pending : handle.pending ≡ length row.pending.entries = k.pending in
    subst (IsSynced me first total out) g.ends
    (after_index me handle first o.is_marked.after total g.rep g.next g.rest out same (record { has = o.is_marked.has; pending = pending ∙ sym o.is_marked.pending }) (o.is_marked.total ∙ t) (omega (arith, o.is_marked.landed, t, pending, none)) (λ n said. o.number n said ∙ sym o.is_marked.landed) o.synced (o.log_mark ∙ logs ∙ sym o.is_marked.stored) g.legal g.runs)

-- the reply to Flush has come
after_flush : (me : ℕ) (handle first : WriterHandle) (row : Row) (total : ℕ) (rep : Reply) (start : State) (events : List Event) (out : WriterOut) → Alike first handle → handle.pending ≡ length row.pending.entries → entry_count row ≡ total → FlushedOwn me handle.writer row rep start → row.log_mark ≡ row.stored → IsLawful start events → Runs me (if_flushed handle (syncs_index (flushed_of handle)) rep) events out → IsSynced me first total out (state_after start events)
after_flush me handle first row total (reply.Flushed n) start events out same p t o logs l r =
    before_index me (flushed_of handle) first o.after total start events out same (record { has = o.has; pending = sym (o.empty n refl) }) (o.total ∙ t) refl (o.log_mark ∙ logs ∙ sym o.stored) l r
after_flush me handle first row total rep start events out same p t o logs l r =
    let is : o.after ≡ row = o.kept (λ n e. cc) in
    sync_failed me handle first row total (trouble rep) start events out same (record { has = subst (λ x. HasRow me handle.writer x start) is o.has; pending = p }) t l r

-- the log was synced
before_flush : (me : ℕ) (handle first : WriterHandle) (row : Row) (total : ℕ) (start : State) (events : List Event) (out : WriterOut) → Alike first handle → Knows me handle row start → entry_count row ≡ total → row.log_mark ≡ row.stored → IsLawful start events → Runs me (flushes_and_syncs handle) events out → IsSynced me first total out (state_after start events)
before_flush me handle first row total start events out same k t logs l r =
    elim (nat_eq handle.pending 0) as (λ b. nat_eq handle.pending 0 ≡ b → Runs me (if b then syncs_index handle else ask (call.Flush handle.writer) (if_flushed handle (syncs_index (flushed_of handle)))) events out → IsSynced me first total out (state_after start events)) [
      | true ↦ λ e r'. let none : handle.pending ≡ 0 = grind (arith, nat_tests) in before_index me handle first row total start events out same k t none logs l r'
      | false ↦ λ e r'.
          let g = reached me handle.writer row (call.Flush handle.writer) (if_flushed handle (syncs_index (flushed_of handle))) start events out k.has l r' in
          subst (IsSynced me first total out) g.ends
          (after_flush me handle first row total g.rep g.next g.rest out same k.pending t (flush_own me handle.writer row g.mid g.rep g.next g.has g.answers) logs g.legal g.runs)
    ] refl r

after_log : (me : ℕ) (handle first : WriterHandle) (row : Row) (total : ℕ) (rep : Reply) (start : State) (events : List Event) (out : WriterOut) → Alike first handle → Knows me handle row start → entry_count row ≡ total → (rep ≡ reply.Done → row.log_mark ≡ row.stored) → IsLawful start events → Runs me (if_log_synced handle rep) events out → IsSynced me first total out (state_after start events)
after_log me handle first row total reply.Done start events out same k t logs l r = before_flush me handle first row total start events out same k t (logs refl) l r
after_log me handle first row total rep start events out same k t logs l r = sync_failed me handle first row total (trouble rep) start events out same k t l r

-- A sync, of a writer whose handle tells of its buffer.
pub sync_ends : (me : ℕ) (handle : WriterHandle) (row : Row) (start : State) (events : List Event) (out : WriterOut) → Knows me handle row start → IsLawful start events → Runs me (sync_program handle) events out → IsSynced me handle (entry_count row) out (state_after start events)
sync_ends me handle row start events out k l r =
    let g = reached me handle.writer row (call.SyncLog handle.writer) (if_log_synced handle) start events out k.has l r in
    let h = sync_log_own me handle.writer row g.mid g.rep g.next g.has g.answers in
    subst (IsSynced me handle (entry_count row) out) g.ends
    (after_log me handle handle h.is_marked.after (entry_count row) g.rep g.next g.rest out (refl, refl) (record { has = h.is_marked.has; pending = k.pending ∙ sym h.is_marked.pending }) h.is_marked.total h.synced g.legal g.runs)

-- ---- a write

left_so : (me : ℕ) (handle first : WriterHandle) (row : Row) (result : Result ℕ Stuck) (start : State) (events : List Event) (out : WriterOut) → Alike first handle → Knows me handle row start → IsLawful start events → Runs me (done (stays_with handle result)) events out → KeepsHandle me first out (state_after start events)
left_so me handle first row result start events out same k l r =
    let f = finished me handle.writer row (stays_with handle result) start events out k.has l r in
    record { handle = handle; row = row; kept = sym (ap (λ (o : WriterOut). o.handle) f.1); same = sym same.0; closing_is = same.1; knows = record { has = f.0; pending = k.pending } }

after_write : (me : ℕ) (handle first : WriterHandle) (row : Row) (rep : Reply) (start : State) (events : List Event) (out : WriterOut) → Alike first handle → handle.pending ≡ length row.pending.entries → WroteOwn me handle.writer row rep start → IsLawful start events → Runs me (if_wrote handle rep) events out → KeepsHandle me first out (state_after start events)
after_write me handle first row (reply.Wrote n) start events out same p o l r =
    left_so me (one_more_of handle) first o.after (Ok n) start events out same (record { has = o.has; pending = ap (λ m. m + 1) p ∙ sym (o.more n refl) }) l r
after_write me handle first row rep start events out same p o l r =
    let is : o.after ≡ row = o.kept (λ n e. cc) in
    left_so me handle first row (Err (trouble rep)) start events out same (record { has = subst (λ x. HasRow me handle.writer x start) is o.has; pending = p }) l r

before_write : (me : ℕ) (handle first : WriterHandle) (row : Row) (at : ℕ) (block : List ℕ) (start : State) (events : List Event) (out : WriterOut) → Alike first handle → Knows me handle row start → IsLawful start events → Runs me (writes handle at block) events out → KeepsHandle me first out (state_after start events)
before_write me handle first row at block start events out same k l r =
    let g = reached me handle.writer row (call.Write handle.writer at block) (if_wrote handle) start events out k.has l r in
    subst (KeepsHandle me first out) g.ends
    (after_write me handle first row g.rep g.next g.rest out same k.pending (write_own me handle.writer row at block g.mid g.rep g.next g.has g.answers) g.legal g.runs)

after_full : (me : ℕ) (handle first : WriterHandle) (row : Row) (at : ℕ) (block : List ℕ) (rep : Reply) (start : State) (events : List Event) (out : WriterOut) → Alike first handle → handle.pending ≡ length row.pending.entries → FlushedOwn me handle.writer row rep start → IsLawful start events → Runs me (if_flushed handle (writes (flushed_of handle) at block) rep) events out → KeepsHandle me first out (state_after start events)
after_full me handle first row at block (reply.Flushed n) start events out same p o l r =
    before_write me (flushed_of handle) first o.after at block start events out same (record { has = o.has; pending = sym (o.empty n refl) }) l r
after_full me handle first row at block rep start events out same p o l r =
    let is : o.after ≡ row = o.kept (λ n e. cc) in
    left_so me handle first row (Err (trouble rep)) start events out same (record { has = subst (λ x. HasRow me handle.writer x start) is o.has; pending = p }) l r

-- A write, of a writer whose handle tells of its buffer.
pub write_ends : (me : ℕ) (handle : WriterHandle) (row : Row) (at : ℕ) (block : List ℕ) (start : State) (events : List Event) (out : WriterOut) → Knows me handle row start → IsLawful start events → Runs me (write_program handle at block) events out → KeepsHandle me handle out (state_after start events)
write_ends me handle row at block start events out k l r =
    elim (nat_le handle.cap handle.pending) as (λ b. Runs me (if b then ask (call.Flush handle.writer) (if_flushed handle (writes (flushed_of handle) at block)) else writes handle at block) events out → KeepsHandle me handle out (state_after start events)) [
      | true ↦ λ r'.
          let g = reached me handle.writer row (call.Flush handle.writer) (if_flushed handle (writes (flushed_of handle) at block)) start events out k.has l r' in
          subst (KeepsHandle me handle out) g.ends
          (after_full me handle handle row at block g.rep g.next g.rest out (refl, refl) k.pending (flush_own me handle.writer row g.mid g.rep g.next g.has g.answers) g.legal g.runs)
      | false ↦ λ r'. before_write me handle handle row at block start events out (refl, refl) k l r'
    ] r
