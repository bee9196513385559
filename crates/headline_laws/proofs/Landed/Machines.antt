-- A write, a sync and a close of a writer that is open: what has landed of it keeps to what the line tells, whether they end or are stopped.
use Rattle.std.proofs.Common.{◌≡◌, ◌⊎◌, ◌≤◌, inl, inr, ℕ, Bool, true, false, nat_eq, nat_le, List, [], ◌∷◌, ◌++◌, length, Option, Some, None, Result, Ok, Err, refl, sym, ap, ◌∙◌, subst, arith, append_assoc, if◌then◌else◌}
use Rattle.mount_model.specs.Program.{ask, followed_by}
use Rattle.mount_model.specs.Process.{asks}
use Rattle.mount_model.specs.declared.call.Call.TheVariants.{Exit, Flush, Greet, PutMeta, SyncIndex, SyncLog, Write as AskWrite}
use Rattle.mount_model.specs.declared.reply.Reply.{Reply}
use Rattle.mount_model.specs.declared.reply.Reply.TheVariants as reply
use Rattle.mount_model.specs.declared.row.Row.{Row}
use Rattle.mount_model.specs.History.{Event}
use Rattle.mount_sound.specs.Owed.{IsLawful}
use Rattle.mount_model.specs.declared.stuck.Stuck.{Stuck}
use Rattle.mount_model.specs.declared.stuck.Stuck.TheVariants as stuck
use Rattle.mount_model.specs.Running.{unbroken}
use Rattle.script_lang.specs.declared.line.Outcome.{Outcome}
use Rattle.script_lang.specs.declared.line.Outcome.TheVariants as line
use Rattle.script_lang.specs.declared.line.Why.TheVariants.{NotOpen, StampsSpent, TooFar}
use Rattle.script_lang.specs.declared.script.Data.{Data}
use Rattle.script_lang.specs.declared.script.Statement.{Statement}
use Rattle.writer_flow.specs.declared.handle.WriterHandle.{WriterHandle}
use Rattle.writer_flow.specs.declared.handle.WriterOut.{WriterOut}
use Rattle.writer_flow.specs.Closing.{after_sync as then_closes, close_from, close_program, if_left, if_put}
use Rattle.writer_flow.specs.Handle.{closing_of, flushed_of, synced_of}
use Rattle.writer_flow.specs.Syncing.{if_log_synced, if_synced, sync_program, syncs_index}
use Rattle.writer_flow.specs.Writing.{if_flushed, if_wrote, write_program, writes}
use Rattle.outcomes.specs.Data.{bytes_of}
use Rattle.outcomes.specs.Outcomes.{close_outcome, sync_outcome, write_outcome}
use Rattle.actor_core.specs.declared.kept.Kept.{Kept}
use Rattle.actor_core.specs.declared.kept.Stop.{Stop}
use Rattle.actor_core.specs.Endings.{Ending, closed, gone, refused, stopped, synced, wrote, wrote_nothing}
use Rattle.actor_core.specs.Statements.{disarmed, does, greeted, greeted_work, work_of}
use Rattle.actor_core.specs.Stopping.{carried}
use Rattle.actor_core.specs.Work.{finishes}
use Rattle.actor_core.specs.Writers.{closes, syncs, writes as writes_statement, writes_bytes}
use Rattle.run_core.specs.Leading.{HadMemory}
use Rattle.reader_laws.specs.Moments.{Dropping, Moment, landed, moment_after}
use Rattle.writer_laws.specs.Counting.{entry_count}
use Rattle.writer_laws.specs.Waiting.{LeavesAlone, LetsBe}
use Rattle.headline_laws.proofs.Plays.Facts.{ComesTo, lets_both, lets_none, lets_one}
use Rattle.headline.specs.Writers.{Account, after_sync, after_write, any_landed}
use Rattle.headline_laws.proofs.OrderlyLines.Synced.{room_same}
use Rattle.headline_laws.proofs.Statements.Did.{IsOpen}
use Rattle.headline_laws.proofs.Landed.Between.{AtPlace}
use Rattle.headline_laws.proofs.Landed.Carried.{Carried, GoesAfter, IsSteady, carried_ends, halted, ran}
use Rattle.headline_laws.proofs.Landed.Closes.{CloseEnds, IsTold, close_within}
use Rattle.headline_laws.proofs.Landed.Gone.{HasGone}
use Rattle.headline_laws.proofs.Landed.Numbers.{holds_any}
use Rattle.headline_laws.proofs.Landed.Settled.{IsSettled}
use Rattle.headline_laws.proofs.Landed.Syncs.{sync_within}
use Rattle.headline_laws.proofs.Landed.Writes.{EndsWithin, HoldsNow, IsHandle, write_within}

-- ---- their programs are steady

wrote_ends : (handle : WriterHandle) (at : ℕ) (block : List ℕ) (rep : Reply) → GoesAfter (AskWrite handle.writer at block) (if_wrote handle rep)
wrote_ends handle at block (reply.Wrote stamp) = tt
wrote_ends handle at block rep = tt

flushed_goes : (handle : WriterHandle) (at : ℕ) (block : List ℕ) (rep : Reply) → GoesAfter (Flush handle.writer) (if_flushed handle (writes (flushed_of handle) at block) rep)
flushed_goes handle at block (reply.Flushed n) = (tt, λ rep. wrote_ends (flushed_of handle) at block rep)
flushed_goes handle at block rep = tt

pub write_steady : (handle : WriterHandle) (at : ℕ) (block : List ℕ) → IsSteady (write_program handle at block)
write_steady handle at block = elim (nat_le handle.cap handle.pending) as (λ b. IsSteady (if b then ask (Flush handle.writer) (if_flushed handle (writes (flushed_of handle) at block)) else writes handle at block)) [
  | true ↦ λ rep. flushed_goes handle at block rep
  | false ↦ λ rep. wrote_ends handle at block rep
]

synced_ends : (handle : WriterHandle) (rep : Reply) → GoesAfter (SyncIndex handle.writer) (if_synced handle rep)
synced_ends handle (reply.Synced n) = tt
synced_ends handle rep = tt

then_syncs : (handle : WriterHandle) (rep : Reply) → GoesAfter (Flush handle.writer) (if_flushed handle (syncs_index (flushed_of handle)) rep)
then_syncs handle (reply.Flushed n) = (tt, λ rep. synced_ends (flushed_of handle) rep)
then_syncs handle rep = tt

log_goes : (handle : WriterHandle) (rep : Reply) → GoesAfter (SyncLog handle.writer) (if_log_synced handle rep)
log_goes handle reply.Done = elim (nat_eq handle.pending 0) as (λ b. GoesAfter (SyncLog handle.writer) (if b then syncs_index handle else ask (Flush handle.writer) (if_flushed handle (syncs_index (flushed_of handle))))) [
  | true ↦ (tt, λ rep. synced_ends handle rep)
  | false ↦ (tt, λ rep. then_syncs handle rep)
]
log_goes handle rep = tt

pub sync_steady : (handle : WriterHandle) → IsSteady (sync_program handle)
sync_steady handle = λ rep. log_goes handle rep

left_ends : (handle : WriterHandle) (rep : Reply) → GoesAfter (Exit handle.writer) (if_left handle rep)
left_ends handle reply.Done = tt
left_ends handle reply.Fault = tt
left_ends handle rep = tt

meta_goes : (handle : WriterHandle) (rep : Reply) → GoesAfter (PutMeta handle.writer) (if_put (closing_of handle) rep)
meta_goes handle reply.Done = (tt, λ rep. left_ends (closing_of handle) rep)
meta_goes handle rep = tt

close_synced : (handle : WriterHandle) (rep : Reply) → GoesAfter (SyncIndex handle.writer) (followed_by (if_synced handle rep) then_closes)
close_synced handle (reply.Synced n) = (tt, λ rep. meta_goes (synced_of n handle) rep)
close_synced handle rep = tt

close_flushed : (handle : WriterHandle) (rep : Reply) → GoesAfter (Flush handle.writer) (followed_by (if_flushed handle (syncs_index (flushed_of handle)) rep) then_closes)
close_flushed handle (reply.Flushed n) = (tt, λ rep. close_synced (flushed_of handle) rep)
close_flushed handle rep = tt

close_log : (handle : WriterHandle) (rep : Reply) → GoesAfter (SyncLog handle.writer) (followed_by (if_log_synced handle rep) then_closes)
close_log handle reply.Done = elim (nat_eq handle.pending 0) as (λ b. GoesAfter (SyncLog handle.writer) (followed_by (if b then syncs_index handle else ask (Flush handle.writer) (if_flushed handle (syncs_index (flushed_of handle)))) then_closes)) [
  | true ↦ (tt, λ rep. close_synced handle rep)
  | false ↦ (tt, λ rep. close_flushed handle rep)
]
close_log handle rep = tt

from_steady : (b : Bool) (handle : WriterHandle) → IsSteady (close_from b handle)
from_steady true handle = λ rep. meta_goes handle rep
from_steady false handle = λ rep. close_log handle rep

pub close_steady : (handle : WriterHandle) → IsSteady (close_program handle)
close_steady handle = from_steady handle.closing handle

-- ---- behind the greeting

-- an actor that has not greeted does so first
pub record Greeted (n : ℕ) (kept : Kept) (s : Statement) (mine : List Event) (spent : List (List Event)) (e : Ending) : Type 0 where
  pub first : List Event
  pub rest : List Event
  pub all : mine ≡ first ++ rest
  pub lets_be : (w : ℕ) → LetsBe n w first
  pub left : Kept
  pub writer : left.writer ≡ kept.writer
  pub gone_is : left.gone ≡ kept.gone
  pub comes : ComesTo n (greeted_work left s) rest spent e

pub greets : (n : ℕ) (kept : Kept) (s : Statement) (mine : List Event) (spent : List (List Event)) (e : Ending) → ComesTo n (work_of kept s) mine spent e → Greeted n kept s mine spent e
greets n kept s mine spent e comes = elim kept.greeted as (λ b. ComesTo n (if b then greeted_work kept s else asks (unbroken Greet) (λ r. greeted_work (greeted kept) s)) mine spent e → Greeted n kept s mine spent e) [
  | true ↦ λ c. record { first = []; rest = mine; all = refl; lets_be = λ w. lets_none n w [] refl; left = kept; writer = refl; gone_is = refl; comes = c }
  | false ↦ λ m. record {
    first = m.before ++ m.call ∷ [];
    rest = m.after;
    all = m.all ∙ sym (append_assoc m.before (m.call ∷ []) m.after);
    lets_be = λ w. lets_both n w m.before (m.call ∷ []) (lets_none n w m.before m.none_before) (lets_one n w m.call (subst (LeavesAlone w) (sym m.asked) (refl, λ on. on)));
    left = greeted kept;
    writer = refl;
    gone_is = refl;
    comes = m.goes_on;
  }
] comes

-- and one that was not stopped makes the statement
pub alive_does : (n : ℕ) (left : Kept) (s : Statement) (mine : List Event) (spent : List (List Event)) (e : Ending) → left.gone ≡ false → ComesTo n (greeted_work left s) mine spent e → ComesTo n (does (disarmed left) left.armed s) mine spent e
alive_does n left s mine spent e alive comes = subst (λ b. ComesTo n (if b then finishes (gone left) else does (disarmed left) left.armed s) mine spent e) alive comes

-- ---- what the account keeps

pub write_latest : (id cap at : ℕ) (bytes : List ℕ) (a : Account) (o : Outcome) → (after_write id cap at bytes a o).latest ≡ a.latest
write_latest id cap at bytes a (line.Wrote place len (Some stamp)) = (room_same cap a).latest
write_latest id cap at bytes a (line.Refused TooFar) = (room_same cap a).latest
write_latest id cap at bytes a (line.Refused StampsSpent) = (room_same cap a).latest
write_latest id cap at bytes a o = refl

pub sync_latest : (a : Account) (o : Outcome) → (after_sync a o).latest ≡ a.latest
sync_latest a (line.Synced count) = refl
sync_latest a (line.Closed count) = refl
sync_latest a line.Gone = refl
sync_latest a o = refl

module _ (n : ℕ) (d : Dropping) (cap : ℕ) where
  -- ---- what the lines of its actor tell of a writer

  -- the actor has it open: the table and the tree are as the lines tell
  pub record IsOpenSo (m : Moment) (kept : Kept) (acc : Account) : Type 0 where
    pub latest : acc.latest ≡ true
    pub handle : WriterHandle
    pub row : Row
    pub keeps : kept.gone ≡ false → kept.writer ≡ Some handle
    pub is : IsHandle d cap handle row
    pub told : IsTold n d handle row
    pub at : AtPlace m n d row
    pub holds : HoldsNow m d row acc

  -- or it is out, and where it is the latest that its actor opened, that makes no more calls, or has none
  pub record IsOutSo (m : Moment) (kept : Kept) (acc : Account) : Type 0 where
    pub settled : IsSettled m d acc
    pub idle : acc.latest ≡ true → (kept.gone ≡ true) ⊎ (kept.writer ≡ None)

  abbrev pub KeepsTo : Moment → Kept → Account → Type 0
  KeepsTo m kept acc = IsOpenSo m kept acc ⊎ IsOutSo m kept acc

  not_both : (b : Bool) → b ≡ false → b ≡ true → ⊥
  not_both b x y = cc

  open_one : (writer : Option WriterHandle) (handle : WriterHandle) → writer ≡ Some handle → IsOpen writer → handle.closing ≡ false
  open_one writer handle is open_is = subst IsOpen is open_is

  -- ---- the statements of a writer that is open

  module _ (left : Kept) (stop : Option Stop) (handle : WriterHandle) (has : left.writer ≡ Some handle) (m : Moment) (row : Row) (acc : Account) (latest : acc.latest ≡ true) (h : IsHandle d cap handle row) (told : IsTold n d handle row) (place : AtPlace m n d row) (holds : HoldsNow m d row acc) where
    low_now : acc.least ≤ landed m d
    low_now = omega (arith, holds.least, holds.no_fewer)

    -- where it is as before
    still_open : KeepsTo m left acc
    still_open = inl (record { latest = latest; handle = handle; row = row; keeps = λ alive_is. has; is = h; told = told; at = place; holds = holds })

    any_open : KeepsTo m left (any_landed acc)
    any_open = inl (record { latest = latest; handle = handle; row = row; keeps = λ alive_is. has; is = h; told = told; at = place; holds = holds_any (entry_count row) row.landed (landed m d) row.landed (landed m d) acc holds (omega arith) holds.no_fewer holds.no_more })

    module _ (after : Outcome → Account) where
      abbrev pub Good : List Event → Ending → Type 0
      Good mine e = KeepsTo (moment_after m mine) e.kept (after e.outcome)

      at_once : (end : Ending) (mine : List Event) (spent : List (List Event)) (e : Ending) → Good [] end → ComesTo n (finishes end) mine spent e → Good mine e
      at_once end mine spent e good comes = subst (λ es. Good es e) (sym comes.0) (subst (Good []) comes.2 good)

      was_stopped : (mine : List Event) (e : Ending) → after line.Stopped ≡ any_landed acc → stopped left ≡ e → IsSettled (moment_after m mine) d (any_landed acc) → Good mine e
      was_stopped mine e is same settled = subst (Good mine) same (inr (record { settled = subst (IsSettled (moment_after m mine) d) (sym is) settled; idle = λ latest_is. inl refl }))

      -- it ended with the writer open
      ended_open : (mine : List Event) (out : WriterOut) (outcome : Outcome) (e : Ending) → (after outcome).latest ≡ acc.latest → record { outcome = outcome; kept = record left { writer = out.handle } } ≡ e → (handle.closing ≡ false → IsOpen e.kept.writer) → handle.closing ≡ false → EndsWithin n d cap (moment_after m mine) out (after outcome) → Good mine e
      ended_open mine out outcome e same_latest is stays fresh w = subst (Good mine) is (inl (record {
        latest = same_latest ∙ latest;
        handle = w.handle;
        row = w.row;
        keeps = λ alive_is. w.kept;
        is = w.is;
        told = λ closing. absurd (not_both w.handle.closing (open_one e.kept.writer w.handle (ap (λ (x : Ending). x.kept.writer) (sym is) ∙ w.kept) (stays fresh)) closing);
        at = w.at;
        holds = w.holds;
      }))

    pub writes_end : (at : ℕ) (content : Data) (mine : List Event) (spent : List (List Event)) (e : Ending) → (handle.closing ≡ false → IsOpen e.kept.writer) → IsLawful m.state mine → HadMemory mine → ComesTo n (writes_statement left stop at (bytes_of content) (Some handle)) mine spent e
        → Good (after_write d.writer cap at (bytes_of content) acc) mine e
    writes_end at content mine spent e stays lawful had comes =
        elim handle.closing as (λ b. handle.closing ≡ b → ComesTo n (if b then finishes (refused left NotOpen) else writes_bytes left stop at bytes handle) mine spent e → Good after mine e) [
          | true ↦ λ closing c. at_once after (refused left NotOpen) mine spent e any_open c
          | false ↦ λ fresh c. some_bytes fresh c
        ] refl comes
      where
        bytes : List ℕ
        bytes = bytes_of content

        after : Outcome → Account
        after = after_write d.writer cap at (bytes_of content) acc

        of : WriterOut → Ending
        of = λ out. wrote left at (length bytes) out

        by_end : (fresh : handle.closing ≡ false) → Carried n d of (stopped left) m acc low_now (write_program handle at bytes) m mine e → Good after mine e
        by_end fresh (ran out runs is) = ended_open after mine out (write_outcome at (length bytes) out.result) e (write_latest d.writer cap at bytes acc (write_outcome at (length bytes) out.result)) is stays fresh (write_within n d cap handle m row acc at bytes mine out h place holds lawful runs)
        by_end fresh (halted is settled) = was_stopped after mine e refl is settled

        some_bytes : (fresh : handle.closing ≡ false) → ComesTo n (writes_bytes left stop at bytes handle) mine spent e → Good after mine e
        some_bytes fresh c = elim (nat_eq (length bytes) 0) as (λ b. ComesTo n (if b then finishes (wrote_nothing left at) else carried (write_program handle at bytes) stop (λ later out. finishes (of out)) (finishes (stopped left))) mine spent e → Good after mine e) [
          | true ↦ λ on. at_once after (wrote_nothing left at) mine spent e still_open on
          | false ↦ λ on. by_end fresh (carried_ends n d of (stopped left) m acc low_now (write_program handle at bytes) stop m mine spent e (write_steady handle at bytes) (λ more. record { row = row; at = place; issued = holds.issued_is; more = omega arith }) lawful had on)
        ] c

    pub syncs_end : (mine : List Event) (spent : List (List Event)) (e : Ending) → (handle.closing ≡ false → IsOpen e.kept.writer) → IsLawful m.state mine → HadMemory mine → ComesTo n (syncs left stop (Some handle)) mine spent e → Good (after_sync acc) mine e
    syncs_end mine spent e stays lawful had comes =
        elim handle.closing as (λ b. handle.closing ≡ b → ComesTo n (if b then finishes (refused left NotOpen) else carried (sync_program handle) stop (λ later out. finishes (synced left out)) (finishes (stopped left))) mine spent e → Good (after_sync acc) mine e) [
          | true ↦ λ closing c. at_once (after_sync acc) (refused left NotOpen) mine spent e any_open c
          | false ↦ λ fresh c. by_end fresh (carried_ends n d (λ out. synced left out) (stopped left) m acc low_now (sync_program handle) stop m mine spent e (sync_steady handle) (λ more. record { row = row; at = place; issued = holds.issued_is; more = omega arith }) lawful had c)
        ] refl comes
      where
        by_end : (fresh : handle.closing ≡ false) → Carried n d (λ out. synced left out) (stopped left) m acc low_now (sync_program handle) m mine e → Good (after_sync acc) mine e
        by_end fresh (ran out runs is) = ended_open (after_sync acc) mine out (sync_outcome out.result) e (sync_latest acc (sync_outcome out.result)) is stays fresh (sync_within n d cap handle m row acc mine out h place holds lawful runs)
        by_end fresh (halted is settled) = was_stopped (after_sync acc) mine e refl is settled

    pub closes_end : (mine : List Event) (spent : List (List Event)) (e : Ending) → IsLawful m.state mine → HadMemory mine → ComesTo n (closes left stop (Some handle)) mine spent e → Good (after_sync acc) mine e
    closes_end mine spent e lawful had comes = by_end (carried_ends n d (λ out. closed left out) (stopped left) m acc low_now (close_program handle) stop m mine spent e (close_steady handle) (λ more. record { row = row; at = place; issued = holds.issued_is; more = omega arith }) lawful had comes)
      where
        by_close : (out : WriterOut) → CloseEnds n d cap (moment_after m mine) out (after_sync acc (close_outcome out.result)) → Good (after_sync acc) mine (closed left out)
        by_close out (inl t, departs) = inl (record {
          latest = sync_latest acc (close_outcome out.result) ∙ latest;
          handle = t.ends.handle;
          row = t.ends.row;
          keeps = λ alive_is. t.ends.kept;
          is = t.ends.is;
          told = t.told;
          at = t.ends.at;
          holds = t.ends.holds;
        })
        by_close out (inr (none, settled), departs) = inr (record { settled = settled; idle = λ latest_is. inr none })

        by_end : Carried n d (λ out. closed left out) (stopped left) m acc low_now (close_program handle) m mine e → Good (after_sync acc) mine e
        by_end (ran out runs is) = subst (Good (after_sync acc) mine) is (by_close out (close_within n d cap handle m row acc mine out h told place holds lawful runs))
        by_end (halted is settled) = was_stopped (after_sync acc) mine e refl is settled

    -- a close that tells a number has left
    pub close_departs : (mine : List Event) (spent : List (List Event)) (e : Ending) → IsLawful m.state mine → HadMemory mine → ComesTo n (closes left stop (Some handle)) mine spent e → (count : ℕ) → e.outcome ≡ line.Closed count → HasGone (moment_after m mine) d
    close_departs mine spent e lawful had comes count says = by_end (carried_ends n d (λ out. closed left out) (stopped left) m acc low_now (close_program handle) stop m mine spent e (close_steady handle) (λ more. record { row = row; at = place; issued = holds.issued_is; more = omega arith }) lawful had comes)
      where
        told_ok : (result : Result ℕ Stuck) → close_outcome result ≡ line.Closed count → result ≡ Ok count
        told_ok (Ok k) is = cc
        told_ok (Err stuck.Fault) is = absurd (cc)
        told_ok (Err (stuck.Damaged folder file place_of)) is = absurd (cc)
        told_ok (Err (stuck.Refused why)) is = absurd (cc)

        by_end : Carried n d (λ out. closed left out) (stopped left) m acc low_now (close_program handle) m mine e → HasGone (moment_after m mine) d
        by_end (ran out runs is) = (close_within n d cap handle m row acc mine out h told place holds lawful runs).1 count (told_ok out.result (ap (λ (x : Ending). x.outcome) is ∙ says))
        by_end (halted is settled) = absurd (let clash : line.Stopped ≡ line.Closed count = ap (λ (x : Ending). x.outcome) is ∙ says in cc)
