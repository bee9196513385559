-- A writer's programs end in a fault only where one was answered.
use Rattle.std.proofs.Common.{◌≡◌, ◌⊎◌, inl, inr, ℕ, List, Bool, true, false, Result, Ok, Err, refl, sym, subst, nat_eq, nat_le, Option, Some, None}
use Rattle.std.specs.Prelude.{if◌then◌else◌}
use Rattle.mount_model.specs.declared.call.Call.{Call}
use Rattle.mount_model.specs.declared.reply.Refusal.{Refusal}
use Rattle.mount_model.specs.declared.reply.Reply.{Reply}
use Rattle.mount_model.specs.declared.reply.Reply.TheVariants.{Fault, NoMemory, Refused, Damaged, Room, Entered, Floored, Done, Wrote, Flushed, Synced}
use Rattle.mount_model.specs.Paths.{Name}
use Rattle.mount_model.specs.Replies.{IsTrouble, refused, damaged, fault, no_memory}
use Rattle.mount_model.specs.declared.stuck.Stuck.{Stuck}
use Rattle.mount_model.specs.Program.{Program, done, ask, followed_by}
use Rattle.writer_flow.specs.declared.handle.WriterHandle.{WriterHandle}
use Rattle.writer_flow.specs.declared.handle.WriterOut.{WriterOut}
use Rattle.writer_flow.specs.Handle.{flushed_of, closing_of}
use Rattle.writer_flow.specs.Opening.{if_done, makes_log, makes_index, makes_hostdir, if_floored, finds_floor, if_entered, enters, if_made, open_program}
use Rattle.writer_flow.specs.Writing.{if_flushed, flush_then, if_wrote, writes, write_program}
use Rattle.writer_flow.specs.Syncing.{if_synced, syncs_index, flushes_and_syncs, if_log_synced, sync_program}
use Rattle.writer_flow.specs.Closing.{if_left, exits, if_put, puts_meta, if_kept, after_sync, close_from, close_program}
use Rattle.mount_model.specs.Replies.{FitsCall}
use Rattle.mount_model.specs.declared.stuck.Stuck.TheVariants as stuck

-- Whatever its calls are answered, its result is one of these, unless a fault was answered. Want of memory ends it.
abbrev pub EndsIn : {R : Type 0} → (R → Bool) → Program Call Reply R → Type 0
EndsIn fine (done r) = fine r ≡ true
EndsIn fine (ask q k) = (reply : Reply) → FitsCall q reply → (reply ≡ NoMemory) ⊎ (reply ≡ Fault) ⊎ EndsIn fine (k reply)

-- it is no fault
abbrev pub is_no_fault : {A : Type 0} → Result A Stuck → Bool
is_no_fault (Ok x) = true
is_no_fault (Err stuck.Fault) = false
is_no_fault (Err (stuck.Damaged folder file place)) = true
is_no_fault (Err (stuck.Refused why)) = true

abbrev pub ends_well : WriterOut → Bool
ends_well out = is_no_fault out.result

-- it is no fault, and where it went well the caller keeps the writer
abbrev pub keeps_well : Option WriterHandle → Result ℕ Stuck → Bool
keeps_well None (Ok landed) = false
keeps_well handle result = is_no_fault result

abbrev pub stays_well : WriterOut → Bool
stays_well out = keeps_well out.handle out.result

abbrev pub GoesWell : {R : Type 0} → (R → Bool) → (Reply → Program Call Reply R) → Reply → Type 0
GoesWell fine k reply = (reply ≡ NoMemory) ⊎ (reply ≡ Fault) ⊎ EndsIn fine (k reply)

-- it ends well after each reply that fits, if it does after the call's own, a refusal, and damage
pub by_reply : {R : Type 0} {may : Refusal → Type 0} (fine : R → Bool) (k : Reply → Program Call Reply R) (own : Type 0) (reply : Reply) → own ⊎ IsTrouble may reply
    → (own → EndsIn fine (k reply)) → ((why : Refusal) → EndsIn fine (k (Refused why))) → ((folder file : Name) → EndsIn fine (k (Damaged folder file)))
    → GoesWell fine k reply
by_reply fine k own reply (inl is) owns refuses damages = inr (inr (owns is))
by_reply fine k own reply (inr (refused why fits e)) owns refuses damages = inr (inr (subst (λ r. EndsIn fine (k r)) (sym e) (refuses why)))
by_reply fine k own reply (inr (damaged folder file e)) owns refuses damages = inr (inr (subst (λ r. EndsIn fine (k r)) (sym e) (damages folder file)))
by_reply fine k own reply (inr (fault e)) owns refuses damages = inr (inl e)
by_reply fine k own reply (inr (no_memory e)) owns refuses damages = inl e

-- what has one of these results has one of those
weaker : {R : Type 0} (fine good : R → Bool) (p : Program Call Reply R) → ((r : R) → fine r ≡ true → good r ≡ true) → EndsIn fine p → EndsIn good p
weaker fine good (done r) goes well = goes r well
weaker fine good (ask q k) goes well = λ reply fits. elim (well reply fits) as (λ _. GoesWell good k reply) [
  | inl e ↦ inl e
  | inr rest ↦ elim rest as (λ _. GoesWell good k reply) [
    | inl e ↦ inr (inl e)
    | inr more ↦ inr (inr (weaker fine good (k reply) goes more))
  ]
]

kept_fine : (handle : Option WriterHandle) (result : Result ℕ Stuck) → keeps_well handle result ≡ true → is_no_fault result ≡ true
kept_fine None (Ok landed) kept = refl
kept_fine None (Err why) kept = kept
kept_fine (Some handle) result kept = kept

-- ---- opening

abbrev pub opens_well : Result WriterHandle Stuck → Bool
opens_well result = is_no_fault result

done_well : {may : Refusal → Type 0} (writer : ℕ) (next : Program Call Reply (Result WriterHandle Stuck)) → EndsIn opens_well next → (reply : Reply) → (reply ≡ Done) ⊎ IsTrouble may reply → GoesWell opens_well (if_done writer next) reply
done_well writer next well reply fits = by_reply opens_well (if_done writer next) (reply ≡ Done) reply fits (λ e. subst (λ r. EndsIn opens_well (if_done writer next r)) (sym e) well) (λ why r f. inr (inr refl)) (λ folder file r f. inr (inr refl))

log_well : (writer cap : ℕ) → EndsIn opens_well (makes_log writer cap)
log_well writer cap = λ reply fits. done_well writer _ refl reply fits

index_well : (writer cap : ℕ) → EndsIn opens_well (makes_index writer cap)
index_well writer cap = λ reply fits. done_well writer (makes_log writer cap) (log_well writer cap) reply fits

hostdir_well : (writer cap : ℕ) → EndsIn opens_well (makes_hostdir writer cap)
hostdir_well writer cap = λ reply fits. done_well writer (makes_index writer cap) (index_well writer cap) reply fits

floor_well : (writer cap : ℕ) → EndsIn opens_well (finds_floor writer cap)
floor_well writer cap = λ reply fits. by_reply opens_well (if_floored writer cap) ((floor : ℕ) × (reply ≡ Floored floor)) reply fits (λ p. subst (λ r. EndsIn opens_well (if_floored writer cap r)) (sym p.1) (hostdir_well writer cap)) (λ why r f. inr (inr refl)) (λ folder file r f. inr (inr refl))

enter_well : (room host cap : ℕ) → EndsIn opens_well (enters room host cap)
enter_well room host cap = λ reply fits. by_reply opens_well (if_entered cap) ((writer : ℕ) × (reply ≡ Entered writer)) reply fits (λ p. subst (λ r. EndsIn opens_well (if_entered cap r)) (sym p.1) (floor_well p.0 cap)) (λ why. refl) (λ folder file. refl)

pub open_well : (name : List ℕ) (host cap : ℕ) → EndsIn opens_well (open_program name host cap)
open_well name host cap = λ reply fits. by_reply opens_well (if_made host cap) ((room : ℕ) × (reply ≡ Room room)) reply fits (λ p. subst (λ r. EndsIn opens_well (if_made host cap r)) (sym p.1) (enter_well p.0 host cap)) (λ why. refl) (λ folder file. refl)

-- ---- writing

flush_well : (handle : WriterHandle) (next : Program Call Reply WriterOut) → EndsIn stays_well next → EndsIn stays_well (flush_then handle next)
flush_well handle next well = λ reply fits. by_reply stays_well (if_flushed handle next) ((landed : ℕ) × (reply ≡ Flushed landed)) reply fits (λ p. subst (λ r. EndsIn stays_well (if_flushed handle next r)) (sym p.1) well) (λ why. refl) (λ folder file. refl)

writes_well : (handle : WriterHandle) (at : ℕ) (block : List ℕ) → EndsIn stays_well (writes handle at block)
writes_well handle at block = λ reply fits. by_reply stays_well (if_wrote handle) ((stamp : ℕ) × (reply ≡ Wrote stamp)) reply fits (λ p. subst (λ r. EndsIn stays_well (if_wrote handle r)) (sym p.1) refl) (λ why. refl) (λ folder file. refl)

pub write_stays : (handle : WriterHandle) (at : ℕ) (block : List ℕ) → EndsIn stays_well (write_program handle at block)
write_stays handle at block = elim (nat_le handle.cap handle.pending) as (λ b. EndsIn stays_well (if b then flush_then handle (writes (flushed_of handle) at block) else writes handle at block)) [
  | true ↦ flush_well handle (writes (flushed_of handle) at block) (writes_well (flushed_of handle) at block)
  | false ↦ writes_well handle at block
]

pub write_well : (handle : WriterHandle) (at : ℕ) (block : List ℕ) → EndsIn ends_well (write_program handle at block)
write_well handle at block = weaker stays_well ends_well (write_program handle at block) (λ out. kept_fine out.handle out.result) (write_stays handle at block)

-- ---- syncing

index_synced : (handle : WriterHandle) → EndsIn stays_well (syncs_index handle)
index_synced handle = λ reply fits. by_reply stays_well (if_synced handle) ((landed : ℕ) × (reply ≡ Synced landed)) reply fits (λ p. subst (λ r. EndsIn stays_well (if_synced handle r)) (sym p.1) refl) (λ why. refl) (λ folder file. refl)

flushed_well : (handle : WriterHandle) → EndsIn stays_well (flushes_and_syncs handle)
flushed_well handle = elim (nat_eq handle.pending 0) as (λ b. EndsIn stays_well (if b then syncs_index handle else flush_then handle (syncs_index (flushed_of handle)))) [
  | true ↦ index_synced handle
  | false ↦ flush_well handle (syncs_index (flushed_of handle)) (index_synced (flushed_of handle))
]

pub sync_stays : (handle : WriterHandle) → EndsIn stays_well (sync_program handle)
sync_stays handle = λ reply fits. by_reply stays_well (if_log_synced handle) (reply ≡ Done) reply fits (λ e. subst (λ r. EndsIn stays_well (if_log_synced handle r)) (sym e) (flushed_well handle)) (λ why. refl) (λ folder file. refl)

pub sync_well : (handle : WriterHandle) → EndsIn ends_well (sync_program handle)
sync_well handle = weaker stays_well ends_well (sync_program handle) (λ out. kept_fine out.handle out.result) (sync_stays handle)

-- ---- closing

exits_well : (handle : WriterHandle) → EndsIn ends_well (exits handle)
exits_well handle = λ reply fits. by_reply ends_well (if_left handle) (reply ≡ Done) reply fits (λ e. subst (λ r. EndsIn ends_well (if_left handle r)) (sym e) refl) (λ why. refl) (λ folder file. refl)

puts_well : (handle : WriterHandle) → EndsIn ends_well (puts_meta handle)
puts_well handle = λ reply fits. by_reply ends_well (if_put (closing_of handle)) (reply ≡ Done) reply fits (λ e. subst (λ r. EndsIn ends_well (if_put (closing_of handle) r)) (sym e) (exits_well (closing_of handle))) (λ why. refl) (λ folder file. refl)

-- one program after another ends well
pub then_well : {R S : Type 0} (fine : R → Bool) (good : S → Bool) (p : Program Call Reply R) (next : R → Program Call Reply S) → ((r : R) → fine r ≡ true → EndsIn good (next r)) → EndsIn fine p → EndsIn good (followed_by p next)
then_well fine good (done r) next goes well = goes r well
then_well fine good (ask q k) next goes well = λ reply fits. elim (well reply fits) as (λ _. GoesWell good (λ r. followed_by (k r) next) reply) [
  | inl e ↦ inl e
  | inr rest ↦ elim rest as (λ _. GoesWell good (λ r. followed_by (k r) next) reply) [
    | inl e ↦ inr (inl e)
    | inr more ↦ inr (inr (then_well fine good (k reply) next goes more))
  ]
]

kept_well : (handle : Option WriterHandle) (result : Result ℕ Stuck) → is_no_fault result ≡ true → EndsIn ends_well (if_kept handle result)
kept_well (Some handle) (Ok landed) fine = puts_well handle
kept_well handle result fine = fine

from_well : (b : Bool) (handle : WriterHandle) → EndsIn ends_well (close_from b handle)
from_well true handle = puts_well handle
from_well false handle = then_well ends_well ends_well (sync_program handle) after_sync (λ out fine. kept_well out.handle out.result fine) (sync_well handle)

pub close_well : (handle : WriterHandle) → EndsIn ends_well (close_program handle)
close_well handle = from_well handle.closing handle
