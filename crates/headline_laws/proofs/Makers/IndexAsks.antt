-- Only the statement of an opening makes an index.
use Rattle.std.proofs.Common.{◌≡◌, inl, inr, ℕ, Bool, true, false, nat_eq, nat_le, List, ◌∷◌, ◌++◌, length, Option, Some, None, Ok, Err, refl, ap, subst, if◌then◌else◌}
use Rattle.std.specs.Prelude.{⊤, Result, ◌==◌}
use Rattle.turn_object.specs.Callers.{made_by}
use Rattle.mount_model.specs.Process.{asks, ends, pauses, shares, tells}
use Rattle.mount_model.specs.Program.{AsksOnly, Program, ask, done, followed_by}
use Rattle.mount_model.specs.declared.call.Call.{Call}
use Rattle.mount_model.specs.declared.call.Call.TheVariants.{Greet, MakeIndex}
use Rattle.mount_model.specs.declared.reply.Reply.{Reply}
use Rattle.mount_model.specs.declared.reply.Reply.TheVariants as reply
use Rattle.mount_model.specs.History.{Event}
use Rattle.mount_model.proofs.Facts.{IsOnNoWriter}
use Rattle.mount_model.specs.declared.stuck.Stuck.{Stuck}
use Rattle.mount_model.specs.Running.{unbroken}
use Rattle.script_lang.specs.declared.script.Statement.{Statement}
use Rattle.script_lang.specs.declared.script.Statement.TheVariants as say
use Rattle.writer_flow.specs.declared.handle.WriterHandle.{WriterHandle}
use Rattle.writer_flow.specs.declared.handle.WriterOut.{WriterOut}
use Rattle.writer_flow.specs.Closing.{after_sync, close_from, close_program, if_kept, if_left, if_put, puts_meta}
use Rattle.writer_flow.specs.Handle.{closing_of, flushed_of}
use Rattle.writer_flow.specs.Syncing.{if_log_synced, if_synced, sync_program, syncs_index}
use Rattle.writer_flow.specs.Writing.{flush_then, if_flushed, if_wrote, write_program, writes}
use Rattle.outcomes.specs.Data.{bytes_of}
use Rattle.actor_core.specs.declared.kept.Kept.{Kept}
use Rattle.actor_core.specs.declared.kept.Stop.{Stop}
use Rattle.actor_core.specs.Endings.{Ending, closed, gone, refused, stopped, synced, wrote, wrote_nothing}
use Rattle.actor_core.specs.Statements.{disarmed, does, greeted, greeted_work, work_of}
use Rattle.actor_core.specs.Stopping.{carried, is_due, one_nearer}
use Rattle.actor_core.specs.Work.{Work, finishes}
use Rattle.actor_core.specs.Writers.{closes, syncs, writes as writes_statement, writes_bytes}
use Rattle.headline_laws.proofs.Plays.Facts.{ComesTo, KeepsIts, statement_spares}
use Rattle.headline_laws.proofs.Makers.Opens.{IsIndexing, its_call, next_or}
use Rattle.headline_laws.proofs.Story.Attributed.{came_asks, none_there}

-- ---- a statement that makes none

abbrev MakesNone : Work → Type 0
MakesNone ends = ⊤
MakesNone (pauses work) = ⊥
MakesNone (tells e work) = ⊤
MakesNone (asks q k) = (IsIndexing q.call → ⊥) × ((r : Reply) → MakesNone (k r))
MakesNone (shares programs k alone) = ⊥

none_made : (n : ℕ) (work : Work) (mine : List Event) (spent : List (List Event)) (e : Ending) → MakesNone work → ComesTo n work mine spent e → (pre : List Event) (ev : Event) (post : List Event) → mine ≡ pre ++ ev ∷ post → ev.caller ≡ n → IsIndexing ev.ask.call → ⊥
none_made n ends mine spent e is comes pre ev post split own indexing = absurd comes
none_made n (pauses work) mine spent e is comes pre ev post split own indexing = absurd is
none_made n (tells end work) mine spent e is comes pre ev post split own indexing = none_there n mine pre ev post split (ap (made_by n) comes.0) own
none_made n (asks q k) mine spent e is m pre ev post split own indexing = elim (next_or n q m.before m.call m.after mine m.all m.none_before pre ev post split own) as (λ _. ⊥) [
  | inl f ↦ is.0 (subst IsIndexing (its_call n q m.call ev m.asked f.same) indexing)
  | inr b ↦ none_made n (k m.call.reply) m.after spent e (is.1 m.call.reply) m.goes_on b.mid ev post b.rest own indexing
]
none_made n (shares programs k alone) mine spent e is comes pre ev post split own indexing = absurd is

abbrev NotIndexing : Call → Type 0
NotIndexing call = IsIndexing call → ⊥

either_none : (b : Bool) (one two : Work) → MakesNone one → MakesNone two → MakesNone (if b then one else two)
either_none true one two x y = x
either_none false one two x y = y

carried_none : {R : Type 0} (p : Program Call Reply R) (stop : Option Stop) (next : Option Stop → R → Work) (halted : Work) → AsksOnly NotIndexing p → ((left : Option Stop) (r : R) → MakesNone (next left r)) → MakesNone halted → MakesNone (carried p stop next halted)
carried_none (done r) stop next halted only goes stops = goes stop r
carried_none (ask call k) stop next halted only goes stops = (only.0, λ r. either_none (is_due stop) halted (carried (k r) (one_nearer stop) next halted) stops (carried_none (k r) (one_nearer stop) next halted (only.1 r) goes stops))

-- ---- the programs of a writer

abbrev Only : {R : Type 0} → Program Call Reply R → Type 0
Only p = AsksOnly NotIndexing p

flushed_only : (handle : WriterHandle) (next : Program Call Reply WriterOut) → Only next → (r : Reply) → Only (if_flushed handle next r)
flushed_only handle next goes (reply.Flushed landed) = goes
flushed_only handle next goes r = tt

wrote_only : (handle : WriterHandle) (r : Reply) → Only (if_wrote handle r)
wrote_only handle (reply.Wrote stamp) = tt
wrote_only handle r = tt

writes_only : (handle : WriterHandle) (at : ℕ) (block : List ℕ) → Only (writes handle at block)
writes_only handle at block = ((λ is. is), wrote_only handle)

write_only : (handle : WriterHandle) (at : ℕ) (block : List ℕ) → Only (write_program handle at block)
write_only handle at block = elim (nat_le handle.cap handle.pending) as (λ b. Only (if b then flush_then handle (writes (flushed_of handle) at block) else writes handle at block)) [
  | true ↦ ((λ is. is), flushed_only handle (writes (flushed_of handle) at block) (writes_only (flushed_of handle) at block))
  | false ↦ writes_only handle at block
]

synced_only : (handle : WriterHandle) (r : Reply) → Only (if_synced handle r)
synced_only handle (reply.Synced landed) = tt
synced_only handle r = tt

index_only : (handle : WriterHandle) → Only (syncs_index handle)
index_only handle = ((λ is. is), synced_only handle)

log_only : (handle : WriterHandle) (r : Reply) → Only (if_log_synced handle r)
log_only handle reply.Done = elim (nat_eq handle.pending 0) as (λ b. Only (if b then syncs_index handle else flush_then handle (syncs_index (flushed_of handle)))) [
  | true ↦ index_only handle
  | false ↦ ((λ is. is), flushed_only handle (syncs_index (flushed_of handle)) (index_only (flushed_of handle)))
]
log_only handle r = tt

sync_only : (handle : WriterHandle) → Only (sync_program handle)
sync_only handle = ((λ is. is), log_only handle)

left_only : (handle : WriterHandle) (r : Reply) → Only (if_left handle r)
left_only handle reply.Done = tt
left_only handle reply.Fault = tt
left_only handle r = tt

put_only : (handle : WriterHandle) (r : Reply) → Only (if_put handle r)
put_only handle reply.Done = ((λ is. is), left_only handle)
put_only handle r = tt

meta_only : (handle : WriterHandle) → Only (puts_meta handle)
meta_only handle = ((λ is. is), put_only (closing_of handle))

kept_only : (handle : Option WriterHandle) (result : Result ℕ Stuck) → Only (if_kept handle result)
kept_only (Some handle) (Ok landed) = meta_only handle
kept_only (Some handle) (Err why) = tt
kept_only None result = tt

then_only : {R S : Type 0} (p : Program Call Reply R) (next : R → Program Call Reply S) → ((r : R) → Only (next r)) → Only p → Only (followed_by p next)
then_only (done r) next goes one = goes r
then_only (ask q k) next goes one = (one.0, λ r. then_only (k r) next goes (one.1 r))

close_only : (handle : WriterHandle) → Only (close_program handle)
close_only handle = elim handle.closing as (λ b. Only (close_from b handle)) [
  | true ↦ meta_only handle
  | false ↦ then_only (sync_program handle) after_sync (λ out. kept_only out.handle out.result) (sync_only handle)
]

-- ---- the statements of a writer

module _ (left : Kept) (stop : Option Stop) where
  writes_none : (at : ℕ) (bytes : List ℕ) (writer : Option WriterHandle) → MakesNone (writes_statement left stop at bytes writer)
  writes_none at bytes None = tt
  writes_none at bytes (Some handle) =
      either_none handle.closing (finishes (refused left _)) (writes_bytes left stop at bytes handle) tt
      (either_none (length bytes == 0) (finishes (wrote_nothing left at)) (carried (write_program handle at bytes) stop (λ later out. finishes (wrote left at (length bytes) out)) (finishes (stopped left))) tt
      (carried_none (write_program handle at bytes) stop (λ later out. finishes (wrote left at (length bytes) out)) (finishes (stopped left)) (write_only handle at bytes) (λ later out. tt) tt))

  syncs_none : (writer : Option WriterHandle) → MakesNone (syncs left stop writer)
  syncs_none None = tt
  syncs_none (Some handle) =
      either_none handle.closing (finishes (refused left _)) (carried (sync_program handle) stop (λ later out. finishes (synced left out)) (finishes (stopped left))) tt
      (carried_none (sync_program handle) stop (λ later out. finishes (synced left out)) (finishes (stopped left)) (sync_only handle) (λ later out. tt) tt)

  closes_none : (writer : Option WriterHandle) → MakesNone (closes left stop writer)
  closes_none None = tt
  closes_none (Some handle) = carried_none (close_program handle) stop (λ later out. finishes (closed left out)) (finishes (stopped left)) (close_only handle) (λ later out. tt) tt

-- a statement that is greeted first
by_greeting : (kept : Kept) (s : Statement) → ((left : Kept) (stop : Option Stop) → MakesNone (does left stop s)) → MakesNone (work_of kept s)
by_greeting kept s each = either_none kept.greeted (greeted_work kept s) (asks (unbroken Greet) (λ r. greeted_work (greeted kept) s)) (gone_or kept) ((λ is. is), λ r. gone_or (greeted kept))
  where
    gone_or : (k : Kept) → MakesNone (greeted_work k s)
    gone_or k = either_none k.gone (finishes (gone k)) (does (disarmed k) k.armed s) tt (each (disarmed k) k.armed)

on_none : (call : Call) → IsOnNoWriter call → IsIndexing call → ⊥
on_none (MakeIndex writer) none indexing = none
on_none call none indexing = indexing

-- the law of this file
pub index_asked : (n : ℕ) (kept : Kept) (s : Statement) (mine : List Event) (spent : List (List Event)) (e : Ending) → ComesTo n (work_of kept s) mine spent e → (pre : List Event) (ev : Event) (post : List Event) → mine ≡ pre ++ ev ∷ post → ev.caller ≡ n → IsIndexing ev.ask.call → (name : List ℕ) × (s ≡ say.Open name)
index_asked n kept (say.Open name) mine spent e comes pre ev post split own indexing = (name, refl)
index_asked n kept (say.Write at content) mine spent e comes pre ev post split own indexing =
    absurd (none_made n (work_of kept (say.Write at content)) mine spent e (by_greeting kept (say.Write at content) (λ left stop. writes_none left stop at (bytes_of content) left.writer)) comes pre ev post split own indexing)
index_asked n kept say.Sync mine spent e comes pre ev post split own indexing = absurd (none_made n (work_of kept say.Sync) mine spent e (by_greeting kept say.Sync (λ left stop. syncs_none left stop left.writer)) comes pre ev post split own indexing)
index_asked n kept say.Close mine spent e comes pre ev post split own indexing = absurd (none_made n (work_of kept say.Close) mine spent e (by_greeting kept say.Close (λ left stop. closes_none left stop left.writer)) comes pre ev post split own indexing)
index_asked n kept s mine spent e comes pre ev post split own indexing =
    absurd (on_none ev.ask.call (came_asks n IsOnNoWriter (KeepsIts kept.writer) (work_of kept s) mine spent e (statement_spares kept s tt) comes pre ev post split own) indexing)
