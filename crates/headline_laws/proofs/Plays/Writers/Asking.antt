-- What each statement may ask: a container is made and entered by an opening alone, and held by a truncate or a rename. A write is one of a write, a truncate
-- one of a truncate, and a new name one of a rename.
use Rattle.std.proofs.Common.{◌≡◌, ◌⊎◌, inl, inr, ℕ, Bool, true, false, List, length, nat_eq, nat_le, Option, Some, None, Result, Ok, Err, refl, sym}
use Rattle.std.specs.Prelude.{⊤, ◌==◌, if◌then◌else◌}
use Rattle.mount_model.specs.declared.stuck.Stuck.{Stuck}
use Rattle.mount_model.specs.Running.{unbroken}
use Rattle.mount_model.specs.Program.{AsksOnly, Program, ask, done, followed_by}
use Rattle.mount_model.specs.Process.{asks}
use Rattle.mount_model.specs.Paths.{Name}
use Rattle.mount_model.specs.declared.call.Call.{Call}
use Rattle.mount_model.specs.declared.call.Call.TheVariants.{Enter, Greet, Hold, MakeContainer, Mark, Move, Write}
use Rattle.mount_model.proofs.Facts.{IsOnNoWriter}
use Rattle.mount_model.specs.declared.reply.Reply.{Reply}
use Rattle.mount_model.specs.declared.reply.Reply.TheVariants as reply
use Rattle.script_lang.specs.declared.script.Data.{Data}
use Rattle.script_lang.specs.declared.script.Statement.{Statement}
use Rattle.script_lang.specs.declared.script.Statement.TheVariants as say
use Rattle.writer_flow.specs.declared.handle.WriterHandle.{WriterHandle}
use Rattle.writer_flow.specs.declared.handle.WriterOut.{WriterOut}
use Rattle.writer_flow.specs.Closing.{after_sync, close_from, close_program, if_kept, if_left, if_put, puts_meta}
use Rattle.writer_flow.specs.Handle.{closing_of, flushed_of, opened_of}
use Rattle.writer_flow.specs.Opening.{Opening, if_done, if_entered, if_floored, if_made, makes_hostdir, makes_index, makes_log, open_program}
use Rattle.writer_flow.specs.Syncing.{if_log_synced, if_synced, sync_program, syncs_index}
use Rattle.writer_flow.specs.Writing.{flush_then, if_flushed, if_wrote, write_program, writes}
use Rattle.outcomes.specs.Data.{bytes_of}
use Rattle.trunc_rename.specs.Renaming.{rename_program}
use Rattle.trunc_rename.specs.Truncating.{truncate_program}
use Rattle.actor_core.specs.declared.kept.Kept.{Kept}
use Rattle.actor_core.specs.declared.kept.Stop.{Stop}
use Rattle.actor_core.specs.Endings.{Ending, closed, gone, opened, refused, renamed, stopped, synced, truncated, wrote, wrote_nothing}
use Rattle.actor_core.specs.Statements.{disarmed, does, greeted, greeted_work, work_of}
use Rattle.actor_core.specs.Stopping.{carried}
use Rattle.actor_core.specs.Work.{Work, finishes}
use Rattle.actor_core.specs.Writers.{closes, opens, syncs, writes as writes_statement, writes_bytes}
use Rattle.headline_laws.proofs.Plays.Callers.Coming.{GoesSo, IsQuiet, carried_goes, goes_weaker}
use Rattle.headline_laws.proofs.Plays.Writers.Spared.{GoesQuietly, LeavesWriter, SparesWriter, closes_spare, flattens_spare, lists_spare, looks_spare, maps_spare, opens_spare, quietly, reads_spare, recovers_spare, refreshes_spare, renames_spare, truncates_spare, verifies_spare}
use Rattle.headline_laws.proofs.Plays.Writers.Sparing.{rename_asks, truncate_asks}

-- it is the write that the statement says, by the writer that the actor keeps
pub record IsItsWrite (kept : Kept) (s : Statement) (id at : ℕ) (block : List ℕ) : Type 0 where
  pub handle : WriterHandle
  pub keeps : kept.writer ≡ Some handle
  pub writer : handle.writer ≡ id
  pub content : Data
  pub says : s ≡ say.Write at content
  pub bytes : block ≡ bytes_of content

-- it truncates or renames
abbrev pub HoldsSo : Statement → Type 0
HoldsSo s = ((name : Name) × (size : ℕ) × (s ≡ say.Trunc name size)) ⊎ ((name : Name) × (to : Name) × (s ≡ say.Rename name to))

-- what the statement of an actor that keeps this may ask
abbrev pub MayAsk : Kept → Statement → Call → Type 0
MayAsk kept s (MakeContainer name) = s ≡ say.Open name
MayAsk kept s (Enter room host most) = (name : List ℕ) × (s ≡ say.Open name)
MayAsk kept s (Hold room) = HoldsSo s
MayAsk kept s (Mark holder size top) = (name : Name) × (s ≡ say.Trunc name size)
MayAsk kept s (Move holder to) = (name : Name) × (s ≡ say.Rename name to)
MayAsk kept s (Write id at block) = IsItsWrite kept s id at block
MayAsk kept s call = ⊤

quiet_may : (kept : Kept) (s : Statement) (call : Call) → IsQuiet call → MayAsk kept s call
quiet_may kept s (MakeContainer name) quiet = absurd quiet
quiet_may kept s (Enter room host most) quiet = absurd quiet
quiet_may kept s (Hold room) quiet = absurd quiet
quiet_may kept s (Mark holder size top) quiet = absurd quiet
quiet_may kept s (Move holder to) quiet = absurd quiet
quiet_may kept s (Write id at block) quiet = absurd quiet
quiet_may kept s call quiet = tt

-- whatever it ends with
abbrev pub Anyhow : Ending → Type 0
Anyhow e = ⊤

abbrev MayAsks : Kept → Statement → Work → Type 0
MayAsks kept s work = GoesSo (MayAsk kept s) Anyhow work

quiet_goes : (kept : Kept) (s : Statement) (left : Kept) (work : Work) → GoesQuietly left work → MayAsks kept s work
quiet_goes kept s left work goes = goes_weaker IsQuiet (MayAsk kept s) (LeavesWriter left.writer) Anyhow (quiet_may kept s) (λ e leaves. tt) work goes

either_goes : (kept : Kept) (s : Statement) (b : Bool) (one other : Work) → MayAsks kept s one → MayAsks kept s other → MayAsks kept s (if b then one else other)
either_goes kept s true one other a b = a
either_goes kept s false one other a b = b

-- ---- the programs of a writer

module _ (kept : Kept) (s : Statement) where
  abbrev Asks : {R : Type 0} → Program Call Reply R → Type 0
  Asks p = AsksOnly (MayAsk kept s) p

  done_asks : (w : ℕ) (next : Opening) → Asks next → (r : Reply) → Asks (if_done w next r)
  done_asks w next goes reply.Done = goes
  done_asks w next goes r = (tt, λ last. tt)

  log_asks : (w cap : ℕ) → Asks (makes_log w cap)
  log_asks w cap = (tt, λ r. done_asks w (done (Ok (opened_of w cap))) tt r)

  index_asks : (w cap : ℕ) → Asks (makes_index w cap)
  index_asks w cap = (tt, λ r. done_asks w (makes_log w cap) (log_asks w cap) r)

  hostdir_asks : (w cap : ℕ) → Asks (makes_hostdir w cap)
  hostdir_asks w cap = (tt, λ r. done_asks w (makes_index w cap) (index_asks w cap) r)

  floored_asks : (w cap : ℕ) (r : Reply) → Asks (if_floored w cap r)
  floored_asks w cap (reply.Floored floor) = hostdir_asks w cap
  floored_asks w cap r = (tt, λ last. tt)

  entered_asks : (cap : ℕ) (r : Reply) → Asks (if_entered cap r)
  entered_asks cap (reply.Entered w) = (tt, floored_asks w cap)
  entered_asks cap r = tt

  made_asks : (name : Name) (host cap : ℕ) → s ≡ say.Open name → (r : Reply) → Asks (if_made host cap r)
  made_asks name host cap is (reply.Room room) = ((name, is), entered_asks cap)
  made_asks name host cap is r = tt

  open_asks : (name : Name) (host cap : ℕ) → s ≡ say.Open name → Asks (open_program name host cap)
  open_asks name host cap is = (is, made_asks name host cap is)

  flushed_asks : (handle : WriterHandle) (next : Program Call Reply WriterOut) → Asks next → (r : Reply) → Asks (if_flushed handle next r)
  flushed_asks handle next goes (reply.Flushed landed) = goes
  flushed_asks handle next goes r = tt

  wrote_asks : (handle : WriterHandle) (r : Reply) → Asks (if_wrote handle r)
  wrote_asks handle (reply.Wrote stamp) = tt
  wrote_asks handle r = tt

  writes_asks : (handle : WriterHandle) (at : ℕ) (block : List ℕ) → IsItsWrite kept s handle.writer at block → Asks (writes handle at block)
  writes_asks handle at block is = (is, wrote_asks handle)

  write_asks : (handle : WriterHandle) (at : ℕ) (block : List ℕ) → IsItsWrite kept s handle.writer at block → Asks (write_program handle at block)
  write_asks handle at block is = elim (nat_le handle.cap handle.pending) as (λ b. Asks (if b then flush_then handle (writes (flushed_of handle) at block) else writes handle at block)) [
    | true ↦ (tt, flushed_asks handle (writes (flushed_of handle) at block) (writes_asks (flushed_of handle) at block is))
    | false ↦ writes_asks handle at block is
  ]

  synced_asks : (handle : WriterHandle) (r : Reply) → Asks (if_synced handle r)
  synced_asks handle (reply.Synced landed) = tt
  synced_asks handle r = tt

  index_syncs : (handle : WriterHandle) → Asks (syncs_index handle)
  index_syncs handle = (tt, synced_asks handle)

  log_synced_asks : (handle : WriterHandle) (r : Reply) → Asks (if_log_synced handle r)
  log_synced_asks handle reply.Done = elim (nat_eq handle.pending 0) as (λ b. Asks (if b then syncs_index handle else flush_then handle (syncs_index (flushed_of handle)))) [
    | true ↦ index_syncs handle
    | false ↦ (tt, flushed_asks handle (syncs_index (flushed_of handle)) (index_syncs (flushed_of handle)))
  ]
  log_synced_asks handle r = tt

  sync_asks : (handle : WriterHandle) → Asks (sync_program handle)
  sync_asks handle = (tt, log_synced_asks handle)

  left_asks : (handle : WriterHandle) (r : Reply) → Asks (if_left handle r)
  left_asks handle reply.Done = tt
  left_asks handle reply.Fault = tt
  left_asks handle r = tt

  put_asks : (handle : WriterHandle) (r : Reply) → Asks (if_put handle r)
  put_asks handle reply.Done = (tt, left_asks handle)
  put_asks handle r = tt

  meta_asks : (handle : WriterHandle) → Asks (puts_meta handle)
  meta_asks handle = (tt, put_asks (closing_of handle))

  kept_asks : (handle : Option WriterHandle) (result : Result ℕ Stuck) → Asks (if_kept handle result)
  kept_asks (Some handle) (Ok landed) = meta_asks handle
  kept_asks (Some handle) (Err why) = tt
  kept_asks None result = tt

  then_asks : {R S : Type 0} (p : Program Call Reply R) (next : R → Program Call Reply S) → ((r : R) → Asks (next r)) → Asks p → Asks (followed_by p next)
  then_asks (done r) next goes one = goes r
  then_asks (ask q k) next goes one = (one.0, λ r. then_asks (k r) next goes (one.1 r))

  close_asks : (handle : WriterHandle) → Asks (close_program handle)
  close_asks handle = elim handle.closing as (λ b. Asks (close_from b handle)) [
    | true ↦ meta_asks handle
    | false ↦ then_asks (sync_program handle) after_sync (λ out. kept_asks out.handle out.result) (sync_asks handle)
  ]

-- ---- statements

module _ (kept : Kept) (left : Kept) (same : left.writer ≡ kept.writer) (stop : Option Stop) where
  opens_asks : (name : Name) (writer : Option WriterHandle) → MayAsks kept (say.Open name) (opens left stop name writer)
  opens_asks name (Some handle) = tt
  opens_asks name None = carried_goes (MayAsk kept (say.Open name)) Anyhow left (open_program name left.host left.cap) stop (λ later result. finishes (opened left result)) (open_asks kept (say.Open name) name left.host left.cap refl) tt (λ later result. tt)

  writes_goes : (at : ℕ) (content : Data) (writer : Option WriterHandle) → kept.writer ≡ writer → MayAsks kept (say.Write at content) (writes_statement left stop at (bytes_of content) writer)
  writes_goes at content None keeps = tt
  writes_goes at content (Some handle) keeps =
      let s : Statement = say.Write at content in
      let bytes : List ℕ = bytes_of content in
      either_goes kept s handle.closing (finishes (refused left _)) (writes_bytes left stop at bytes handle) tt
      (either_goes kept s (length bytes == 0) (finishes (wrote_nothing left at)) (carried (write_program handle at bytes) stop (λ later out. finishes (wrote left at (length bytes) out)) (finishes (stopped left))) tt
      (carried_goes (MayAsk kept s) Anyhow left (write_program handle at bytes) stop (λ later out. finishes (wrote left at (length bytes) out))
      (write_asks kept s handle at bytes (record { handle = handle; keeps = keeps; writer = refl; content = content; says = refl; bytes = refl })) tt (λ later out. tt)))

  syncs_goes : (writer : Option WriterHandle) → MayAsks kept say.Sync (syncs left stop writer)
  syncs_goes None = tt
  syncs_goes (Some handle) =
      either_goes kept say.Sync handle.closing (finishes (refused left _)) (carried (sync_program handle) stop (λ later out. finishes (synced left out)) (finishes (stopped left))) tt
      (carried_goes (MayAsk kept say.Sync) Anyhow left (sync_program handle) stop (λ later out. finishes (synced left out)) (sync_asks kept say.Sync handle) tt (λ later out. tt))

  closes_goes : (writer : Option WriterHandle) → MayAsks kept say.Close (closes left stop writer)
  closes_goes None = tt
  closes_goes (Some handle) = carried_goes (MayAsk kept say.Close) Anyhow left (close_program handle) stop (λ later out. finishes (closed left out)) (close_asks kept say.Close handle) tt (λ later out. tt)

  truncates_goes : (name : Name) (size : ℕ) → MayAsks kept (say.Trunc name size) (does left stop (say.Trunc name size))
  truncates_goes name size =
      let s : Statement = say.Trunc name size in
      carried_goes (MayAsk kept s) Anyhow left (truncate_program name size) stop (λ later result. finishes (truncated left result))
      (truncate_asks (MayAsk kept s) (λ n. tt) (λ room look. tt) (λ room. inl (name, size, refl)) (λ holder. tt) size (λ holder top. (name, refl)) name) tt (λ later result. tt)

  renames_goes : (name to : Name) → MayAsks kept (say.Rename name to) (does left stop (say.Rename name to))
  renames_goes name to =
      let s : Statement = say.Rename name to in
      carried_goes (MayAsk kept s) Anyhow left (rename_program name to) stop (λ later result. finishes (renamed left result))
      (rename_asks (MayAsk kept s) (λ n. tt) (λ room look. tt) (λ room. inr (name, to, refl)) (λ holder. tt) name to (λ holder. (name, refl))) tt (λ later result. tt)

  module _ (alive : left.gone ≡ false) where
    does_goes : (s : Statement) → MayAsks kept s (does left stop s)
    does_goes (say.Open name) = opens_asks name left.writer
    does_goes (say.Write at content) = writes_goes at content left.writer (sym same)
    does_goes say.Sync = syncs_goes left.writer
    does_goes say.Close = closes_goes left.writer
    does_goes (say.Ropen name workers) = quiet_goes kept (say.Ropen name workers) left (does left stop (say.Ropen name workers)) (opens_spare left alive stop name workers left.reader)
    does_goes (say.Read at len) = quiet_goes kept (say.Read at len) left (does left stop (say.Read at len)) (reads_spare left alive stop at len left.reader)
    does_goes (say.Verify at content) = quiet_goes kept (say.Verify at content) left (does left stop (say.Verify at content)) (verifies_spare left alive stop at content left.reader)
    does_goes say.Map = quiet_goes kept say.Map left (does left stop say.Map) (maps_spare left alive left.reader)
    does_goes say.Refresh = quiet_goes kept say.Refresh left (does left stop say.Refresh) (refreshes_spare left alive stop left.reader)
    does_goes say.Rclose = quiet_goes kept say.Rclose left (does left stop say.Rclose) (closes_spare left alive left.reader)
    does_goes (say.Stat name) = quiet_goes kept (say.Stat name) left (does left stop (say.Stat name)) (looks_spare left alive stop name)
    does_goes (say.Flatten name) = quiet_goes kept (say.Flatten name) left (does left stop (say.Flatten name)) (flattens_spare left alive stop name)
    does_goes (say.Recover name) = quiet_goes kept (say.Recover name) left (does left stop (say.Recover name)) (recovers_spare left alive stop name)
    does_goes (say.Trunc name size) = truncates_goes name size
    does_goes (say.Rename name to) = renames_goes name to
    does_goes say.Ls = quiet_goes kept say.Ls left (does left stop say.Ls) (lists_spare left alive stop)
    does_goes (say.Stop call bytes) = tt

greeted_goes : (kept left : Kept) → left.writer ≡ kept.writer → (s : Statement) → MayAsks kept s (greeted_work left s)
greeted_goes kept left same s = elim left.gone as (λ b. left.gone ≡ b → MayAsks kept s (if b then finishes (gone left) else does (disarmed left) left.armed s)) [
  | true ↦ λ is. tt
  | false ↦ λ alive. does_goes kept (disarmed left) same left.armed alive s
] refl

-- Each call of a statement is one that it may ask.
pub statement_asks : (kept : Kept) (s : Statement) → MayAsks kept s (work_of kept s)
statement_asks kept s = elim kept.greeted as (λ b. MayAsks kept s (if b then greeted_work kept s else asks (unbroken Greet) (λ reply. greeted_work (greeted kept) s))) [
  | true ↦ greeted_goes kept kept refl s
  | false ↦ (tt, λ r. greeted_goes kept (greeted kept) refl s)
]

-- ---- statements on no writer

abbrev pub HasWriter : Option WriterHandle → Type 0
HasWriter None = ⊥
HasWriter (Some handle) = ⊤

-- it is none of a writer, or refused since its actor has one
abbrev pub IsSparing : Option WriterHandle → Statement → Type 0
IsSparing writer (say.Open name) = HasWriter writer
IsSparing writer (say.Write at content) = ⊥
IsSparing writer say.Sync = ⊥
IsSparing writer say.Close = ⊥
IsSparing writer s = ⊤

-- its actor keeps this writer
abbrev pub KeepsIts : Option WriterHandle → Ending → Type 0
KeepsIts writer e = e.kept.writer ≡ writer

module _ (left : Kept) (alive : left.gone ≡ false) (stop : Option Stop) where
  abbrev OnNone : Work → Type 0
  OnNone work = GoesSo IsOnNoWriter (KeepsIts left.writer) work

  spares_any : (work : Work) → SparesWriter left work → OnNone work
  spares_any work spares = goes_weaker IsOnNoWriter IsOnNoWriter (LeavesWriter left.writer) (KeepsIts left.writer) (λ call none. none) (λ e leaves. leaves.0) work spares

  quiet_any : (work : Work) → GoesQuietly left work → OnNone work
  quiet_any work goes = spares_any work (quietly left work goes)

  opens_any : (name : Name) (writer : Option WriterHandle) → IsSparing writer (say.Open name) → OnNone (opens left stop name writer)
  opens_any name None is = absurd is
  opens_any name (Some handle) is = refl

  does_spare : (s : Statement) → IsSparing left.writer s → OnNone (does left stop s)
  does_spare (say.Open name) is = opens_any name left.writer is
  does_spare (say.Write at content) is = absurd is
  does_spare say.Sync is = absurd is
  does_spare say.Close is = absurd is
  does_spare (say.Ropen name workers) is = quiet_any (does left stop (say.Ropen name workers)) (opens_spare left alive stop name workers left.reader)
  does_spare (say.Read at len) is = quiet_any (does left stop (say.Read at len)) (reads_spare left alive stop at len left.reader)
  does_spare (say.Verify at content) is = quiet_any (does left stop (say.Verify at content)) (verifies_spare left alive stop at content left.reader)
  does_spare say.Map is = quiet_any (does left stop say.Map) (maps_spare left alive left.reader)
  does_spare say.Refresh is = quiet_any (does left stop say.Refresh) (refreshes_spare left alive stop left.reader)
  does_spare say.Rclose is = quiet_any (does left stop say.Rclose) (closes_spare left alive left.reader)
  does_spare (say.Stat name) is = quiet_any (does left stop (say.Stat name)) (looks_spare left alive stop name)
  does_spare (say.Flatten name) is = quiet_any (does left stop (say.Flatten name)) (flattens_spare left alive stop name)
  does_spare (say.Recover name) is = quiet_any (does left stop (say.Recover name)) (recovers_spare left alive stop name)
  does_spare (say.Trunc name size) is = spares_any (does left stop (say.Trunc name size)) (truncates_spare left alive stop name size)
  does_spare (say.Rename name to) is = spares_any (does left stop (say.Rename name to)) (renames_spare left alive stop name to)
  does_spare say.Ls is = quiet_any (does left stop say.Ls) (lists_spare left alive stop)
  does_spare (say.Stop call bytes) is = refl

greeted_spares : (left : Kept) (s : Statement) → IsSparing left.writer s → GoesSo IsOnNoWriter (KeepsIts left.writer) (greeted_work left s)
greeted_spares left s is = elim left.gone as (λ b. left.gone ≡ b → GoesSo IsOnNoWriter (KeepsIts left.writer) (if b then finishes (gone left) else does (disarmed left) left.armed s)) [
  | true ↦ λ was. refl
  | false ↦ λ alive. does_spare (disarmed left) alive left.armed s is
] refl

-- None of its calls is on a writer, and its actor keeps the one that it has.
pub statement_spares : (kept : Kept) (s : Statement) → IsSparing kept.writer s → GoesSo IsOnNoWriter (KeepsIts kept.writer) (work_of kept s)
statement_spares kept s is = elim kept.greeted as (λ b. GoesSo IsOnNoWriter (KeepsIts kept.writer) (if b then greeted_work kept s else asks (unbroken Greet) (λ reply. greeted_work (greeted kept) s))) [
  | true ↦ greeted_spares kept s is
  | false ↦ (tt, λ r. greeted_spares (greeted kept) s is)
]
