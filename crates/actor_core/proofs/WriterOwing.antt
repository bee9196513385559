-- The calls of a writer's programs owe nothing of the state, and their numbers are in range.
use Rattle.std.proofs.Common.{ℕ, ◌≤◌, List, Bool, true, false, Result, Ok, nat_eq, nat_le, Option, Some}
use Rattle.std.specs.Prelude.{if◌then◌else◌}
use Rattle.mount_model.specs.declared.stuck.Stuck.{Stuck}
use Rattle.mount_model.specs.Program.{AsksOnly, Program, done, ask, followed_by}
use Rattle.mount_model.specs.declared.call.Call.{Call}
use Rattle.mount_model.specs.declared.reply.Reply.{Reply}
use Rattle.mount_model.specs.declared.reply.Reply.TheVariants.{Fault, Room, Entered, Floored, Done, Wrote, Flushed, Synced}
use Rattle.writer_flow.specs.declared.handle.WriterHandle.{WriterHandle}
use Rattle.writer_flow.specs.declared.handle.WriterOut.{WriterOut}
use Rattle.writer_flow.specs.Handle.{opened_of, flushed_of, closing_of}
use Rattle.writer_flow.specs.Opening.{Opening, if_done, makes_log, makes_index, makes_hostdir, if_floored, if_entered, if_made, open_program}
use Rattle.writer_flow.specs.Writing.{if_flushed, flush_then, if_wrote, writes, write_program}
use Rattle.writer_flow.specs.Syncing.{if_synced, syncs_index, flushes_and_syncs, if_log_synced, sync_program}
use Rattle.actor_core.specs.Owed.{IsHarmlessCall}
use Rattle.writer_flow.specs.Closing.{if_left, if_put, puts_meta, if_kept, after_sync, close_from, close_program}

abbrev pub IsUnowed : {R : Type 0} → Program Call Reply R → Type 0
IsUnowed p = AsksOnly IsHarmlessCall p

-- ---- opening

if_done_unowed : (writer : ℕ) (next : Opening) → IsUnowed next → (reply : Reply) → IsUnowed (if_done writer next reply)
if_done_unowed writer next unowed Done = unowed
if_done_unowed writer next unowed reply = ((tt, tt), λ left. tt)

log_unowed : (writer cap : ℕ) → IsUnowed (makes_log writer cap)
log_unowed writer cap = ((tt, tt), if_done_unowed writer (done (Ok (opened_of writer cap))) tt)

index_unowed : (writer cap : ℕ) → IsUnowed (makes_index writer cap)
index_unowed writer cap = ((tt, tt), if_done_unowed writer (makes_log writer cap) (log_unowed writer cap))

hostdir_unowed : (writer cap : ℕ) → IsUnowed (makes_hostdir writer cap)
hostdir_unowed writer cap = ((tt, tt), if_done_unowed writer (makes_index writer cap) (index_unowed writer cap))

if_floored_unowed : (writer cap : ℕ) (reply : Reply) → IsUnowed (if_floored writer cap reply)
if_floored_unowed writer cap (Floored floor) = hostdir_unowed writer cap
if_floored_unowed writer cap reply = ((tt, tt), λ left. tt)

if_entered_unowed : (cap : ℕ) (reply : Reply) → IsUnowed (if_entered cap reply)
if_entered_unowed cap (Entered writer) = ((tt, tt), if_floored_unowed writer cap)
if_entered_unowed cap reply = tt

if_made_unowed : (host cap : ℕ) → 1 ≤ cap → cap ≤ 4096 → (reply : Reply) → IsUnowed (if_made host cap reply)
if_made_unowed host cap some few (Room room) = (((some, few), tt), if_entered_unowed cap)
if_made_unowed host cap some few reply = tt

pub open_unowed : (name : List ℕ) (host cap : ℕ) → 1 ≤ cap → cap ≤ 4096 → IsUnowed (open_program name host cap)
open_unowed name host cap some few = ((tt, tt), if_made_unowed host cap some few)

-- ---- writing

if_flushed_unowed : (handle : WriterHandle) (next : Program Call Reply WriterOut) → IsUnowed next → (reply : Reply) → IsUnowed (if_flushed handle next reply)
if_flushed_unowed handle next unowed (Flushed landed) = unowed
if_flushed_unowed handle next unowed reply = tt

flush_unowed : (handle : WriterHandle) (next : Program Call Reply WriterOut) → IsUnowed next → IsUnowed (flush_then handle next)
flush_unowed handle next unowed = ((tt, tt), if_flushed_unowed handle next unowed)

if_wrote_unowed : (handle : WriterHandle) (reply : Reply) → IsUnowed (if_wrote handle reply)
if_wrote_unowed handle (Wrote stamp) = tt
if_wrote_unowed handle reply = tt

writes_unowed : (handle : WriterHandle) (at : ℕ) (block : List ℕ) → IsUnowed (writes handle at block)
writes_unowed handle at block = ((tt, tt), if_wrote_unowed handle)

pub write_unowed : (handle : WriterHandle) (at : ℕ) (block : List ℕ) → IsUnowed (write_program handle at block)
write_unowed handle at block = elim (nat_le handle.cap handle.pending) as (λ b. IsUnowed (if b then flush_then handle (writes (flushed_of handle) at block) else writes handle at block)) [
  | true ↦ flush_unowed handle (writes (flushed_of handle) at block) (writes_unowed (flushed_of handle) at block)
  | false ↦ writes_unowed handle at block
]

-- ---- syncing

if_synced_unowed : (handle : WriterHandle) (reply : Reply) → IsUnowed (if_synced handle reply)
if_synced_unowed handle (Synced landed) = tt
if_synced_unowed handle reply = tt

index_synced_unowed : (handle : WriterHandle) → IsUnowed (syncs_index handle)
index_synced_unowed handle = ((tt, tt), if_synced_unowed handle)

flushes_unowed : (handle : WriterHandle) → IsUnowed (flushes_and_syncs handle)
flushes_unowed handle = elim (nat_eq handle.pending 0) as (λ b. IsUnowed (if b then syncs_index handle else flush_then handle (syncs_index (flushed_of handle)))) [
  | true ↦ index_synced_unowed handle
  | false ↦ flush_unowed handle (syncs_index (flushed_of handle)) (index_synced_unowed (flushed_of handle))
]

if_log_synced_unowed : (handle : WriterHandle) (reply : Reply) → IsUnowed (if_log_synced handle reply)
if_log_synced_unowed handle Done = flushes_unowed handle
if_log_synced_unowed handle reply = tt

pub sync_unowed : (handle : WriterHandle) → IsUnowed (sync_program handle)
sync_unowed handle = ((tt, tt), if_log_synced_unowed handle)

-- ---- closing

if_left_unowed : (handle : WriterHandle) (reply : Reply) → IsUnowed (if_left handle reply)
if_left_unowed handle Done = tt
if_left_unowed handle Fault = tt
if_left_unowed handle reply = tt

if_put_unowed : (handle : WriterHandle) (reply : Reply) → IsUnowed (if_put handle reply)
if_put_unowed handle Done = ((tt, tt), if_left_unowed handle)
if_put_unowed handle reply = tt

puts_unowed : (handle : WriterHandle) → IsUnowed (puts_meta handle)
puts_unowed handle = ((tt, tt), if_put_unowed (closing_of handle))

-- one program after another
pub then_unowed : {R S : Type 0} (p : Program Call Reply R) (next : R → Program Call Reply S) → ((r : R) → IsUnowed (next r)) → IsUnowed p → IsUnowed (followed_by p next)
then_unowed (done r) next goes unowed = goes r
then_unowed (ask q k) next goes unowed = (unowed.0, λ reply. then_unowed (k reply) next goes (unowed.1 reply))

kept_unowed : (handle : Option WriterHandle) (result : Result ℕ Stuck) → IsUnowed (if_kept handle result)
kept_unowed (Some handle) (Ok landed) = puts_unowed handle
kept_unowed handle result = tt

from_unowed : (b : Bool) (handle : WriterHandle) → IsUnowed (close_from b handle)
from_unowed true handle = puts_unowed handle
from_unowed false handle = then_unowed (sync_program handle) after_sync (λ out. kept_unowed out.handle out.result) (sync_unowed handle)

pub close_unowed : (handle : WriterHandle) → IsUnowed (close_program handle)
close_unowed handle = from_unowed handle.closing handle
