-- What a writer's machines leave of its handle, whatever is replied.
use Rattle.std.proofs.Common.{◌≡◌, ℕ, List, Bool, true, false, Option, Some, None, refl, ◌+◌, nat_eq, nat_le}
use Rattle.std.specs.Prelude.{⊤, Result, Ok, Err, if◌then◌else◌}
use Rattle.mount_model.specs.Program.{Program}
use Rattle.mount_model.specs.declared.call.Call.{Call}
use Rattle.mount_model.specs.declared.reply.Reply.{Reply}
use Rattle.mount_model.specs.declared.reply.Reply.TheVariants.{Done, Entered, Fault, Floored, Flushed, Room, Synced, Wrote}
use Rattle.mount_model.specs.declared.stuck.Stuck.{Stuck}
use Rattle.writer_flow.specs.declared.handle.WriterHandle.{WriterHandle}
use Rattle.writer_flow.specs.declared.handle.WriterOut.{WriterOut}
use Rattle.writer_flow.specs.Handle.{closing_of, flushed_of}
use Rattle.writer_flow.specs.Opening.{if_done, if_entered, if_floored, if_made, makes_hostdir, makes_index, makes_log, open_program}
use Rattle.writer_flow.specs.Writing.{flush_then, if_flushed, if_wrote, write_program, writes}
use Rattle.writer_flow.specs.Syncing.{flushes_and_syncs, if_log_synced, if_synced, sync_program, syncs_index}
use Rattle.writer_flow.specs.Closing.{after_sync, close_from, close_program, if_kept, if_left, if_put}
use Rattle.headline_laws.proofs.Statements.Ends.{ResultsIn, results_then}

-- ---- it is opened

-- a writer that was opened may write
abbrev pub MayWrite : Result WriterHandle Stuck → Type 0
MayWrite (Ok handle) = handle.closing ≡ false
MayWrite (Err because) = ⊤

done_may : (writer : ℕ) (next : Program Call Reply (Result WriterHandle Stuck)) → ResultsIn MayWrite next → (reply : Reply) → ResultsIn MayWrite (if_done writer next reply)
done_may writer next may Done = may
done_may writer next may reply = λ left. tt

log_may : (writer cap : ℕ) → ResultsIn MayWrite (makes_log writer cap)
log_may writer cap = done_may writer _ refl

index_may : (writer cap : ℕ) → ResultsIn MayWrite (makes_index writer cap)
index_may writer cap = done_may writer (makes_log writer cap) (log_may writer cap)

hostdir_may : (writer cap : ℕ) → ResultsIn MayWrite (makes_hostdir writer cap)
hostdir_may writer cap = done_may writer (makes_index writer cap) (index_may writer cap)

floored_may : (writer cap : ℕ) (reply : Reply) → ResultsIn MayWrite (if_floored writer cap reply)
floored_may writer cap (Floored floor) = hostdir_may writer cap
floored_may writer cap reply = λ left. tt

entered_may : (cap : ℕ) (reply : Reply) → ResultsIn MayWrite (if_entered cap reply)
entered_may cap (Entered writer) = floored_may writer cap
entered_may cap reply = tt

made_may : (host cap : ℕ) (reply : Reply) → ResultsIn MayWrite (if_made host cap reply)
made_may host cap (Room room) = entered_may cap
made_may host cap reply = tt

pub open_may : (name : List ℕ) (host cap : ℕ) → ResultsIn MayWrite (open_program name host cap)
open_may name host cap = made_may host cap

-- ---- it is written to, and synced

-- the writer is there, and may write as before
pub record KeepsHandle (handle : WriterHandle) (out : WriterOut) : Type 0 where
  pub now : WriterHandle
  pub is : out.handle ≡ Some now
  pub closing : now.closing ≡ handle.closing

abbrev StaysSo : WriterHandle → WriterHandle → Type 0
StaysSo old handle = handle.closing ≡ old.closing

flush_keeps : (old handle : WriterHandle) (next : Program Call Reply WriterOut) → StaysSo old handle → ResultsIn (KeepsHandle old) next → (reply : Reply) → ResultsIn (KeepsHandle old) (if_flushed handle next reply)
flush_keeps old handle next same keeps (Flushed landed) = keeps
flush_keeps old handle next same keeps reply = record { now = handle; is = refl; closing = same }

wrote_keeps : (old handle : WriterHandle) → StaysSo old handle → (reply : Reply) → ResultsIn (KeepsHandle old) (if_wrote handle reply)
wrote_keeps old handle same (Wrote stamp) = record { now = record handle { pending = handle.pending + 1 }; is = refl; closing = same }
wrote_keeps old handle same reply = record { now = handle; is = refl; closing = same }

pub write_keeps : (handle : WriterHandle) (at : ℕ) (block : List ℕ) → ResultsIn (KeepsHandle handle) (write_program handle at block)
write_keeps handle at block = elim (nat_le handle.cap handle.pending) as (λ b. ResultsIn (KeepsHandle handle) (if b then flush_then handle (writes (flushed_of handle) at block) else writes handle at block)) [
  | true ↦ flush_keeps handle handle (writes (flushed_of handle) at block) refl (wrote_keeps handle (flushed_of handle) refl)
  | false ↦ wrote_keeps handle handle refl
]

synced_keeps : (old handle : WriterHandle) → StaysSo old handle → (reply : Reply) → ResultsIn (KeepsHandle old) (if_synced handle reply)
synced_keeps old handle same (Synced landed) = record { now = record handle { landed = landed }; is = refl; closing = same }
synced_keeps old handle same reply = record { now = handle; is = refl; closing = same }

flushed_keeps : (handle : WriterHandle) → ResultsIn (KeepsHandle handle) (flushes_and_syncs handle)
flushed_keeps handle = elim (nat_eq handle.pending 0) as (λ b. ResultsIn (KeepsHandle handle) (if b then syncs_index handle else flush_then handle (syncs_index (flushed_of handle)))) [
  | true ↦ synced_keeps handle handle refl
  | false ↦ flush_keeps handle handle (syncs_index (flushed_of handle)) refl (synced_keeps handle (flushed_of handle) refl)
]

log_keeps : (handle : WriterHandle) (reply : Reply) → ResultsIn (KeepsHandle handle) (if_log_synced handle reply)
log_keeps handle Done = flushed_keeps handle
log_keeps handle reply = record { now = handle; is = refl; closing = refl }

pub sync_keeps : (handle : WriterHandle) → ResultsIn (KeepsHandle handle) (sync_program handle)
sync_keeps handle = log_keeps handle

-- ---- it is closed

-- where it was told as closed, the writer is gone
abbrev pub LeavesSo : Result ℕ Stuck → Option WriterHandle → Type 0
LeavesSo (Ok landed) handle = handle ≡ None
LeavesSo (Err because) handle = ⊤

abbrev pub HasLeft : WriterOut → Type 0
HasLeft out = LeavesSo out.result out.handle

left_so : (handle : WriterHandle) (reply : Reply) → ResultsIn HasLeft (if_left handle reply)
left_so handle Done = refl
left_so handle Fault = tt
left_so handle reply = tt

put_so : (handle : WriterHandle) (reply : Reply) → ResultsIn HasLeft (if_put handle reply)
put_so handle Done = left_so handle
put_so handle reply = tt

kept_so : (handle : Option WriterHandle) (result : Result ℕ Stuck) → ResultsIn HasLeft (if_kept handle result)
kept_so (Some handle) (Ok landed) = put_so (closing_of handle)
kept_so None (Ok landed) = refl
kept_so None (Err because) = tt
kept_so (Some handle) (Err because) = tt

from_so : (b : Bool) (handle : WriterHandle) → ResultsIn HasLeft (close_from b handle)
from_so true handle = put_so (closing_of handle)
from_so false handle = results_then (KeepsHandle handle) HasLeft (sync_program handle) after_sync (sync_keeps handle) (λ out keeps. kept_so out.handle out.result)

pub close_so : (handle : WriterHandle) → ResultsIn HasLeft (close_program handle)
close_so handle = from_so handle.closing handle
