-- The calls of a writer's programs are free.
use Rattle.std.proofs.Common.{ℕ, ◌≤◌, List, Bool, true, false, Result, Ok, nat_eq, nat_le, Option, Some}
use Rattle.std.specs.Prelude.{if◌then◌else◌}
use Rattle.mount_model.specs.declared.stuck.Stuck.{Stuck}
use Rattle.mount_model.specs.Program.{AsksOnly, Program, done, ask, followed_by}
use Rattle.mount_model.specs.declared.call.Call.{Call}
use Rattle.mount_model.specs.declared.reply.Reply.{Reply}
use Rattle.mount_model.specs.declared.reply.Reply.TheVariants.{Fault, Room, Entered, Floored, Done, Wrote, Flushed, Synced}
use Rattle.writer_flow.specs.declared.handle.WriterHandle.{WriterHandle}
use Rattle.writer_flow.specs.declared.handle.WriterOut.{WriterOut}
use Rattle.writer_flow.specs.Handle.{opened_of, flushed_of, closing_of}
use Rattle.writer_flow.specs.Opening.{Opening, if_done, makes_log, makes_index, makes_hostdir, if_floored, if_entered, if_made, open_program}
use Rattle.writer_flow.specs.Writing.{if_flushed, flush_then, if_wrote, writes, write_program}
use Rattle.writer_flow.specs.Syncing.{if_synced, syncs_index, flushes_and_syncs, if_log_synced, sync_program}
use Rattle.lone_flow.specs.Free.{IsFreeCall}
use Rattle.writer_flow.specs.Closing.{if_left, if_put, puts_meta, if_kept, after_sync, close_from, close_program}

abbrev pub IsFree : {R : Type 0} → Program Call Reply R → Type 0
IsFree p = AsksOnly IsFreeCall p

-- ---- opening

if_done_free : (writer : ℕ) (next : Opening) → IsFree next → (reply : Reply) → IsFree (if_done writer next reply)
if_done_free writer next free Done = free
if_done_free writer next free reply = ((tt, tt), λ left. tt)

log_free : (writer cap : ℕ) → IsFree (makes_log writer cap)
log_free writer cap = ((tt, tt), if_done_free writer (done (Ok (opened_of writer cap))) tt)

index_free : (writer cap : ℕ) → IsFree (makes_index writer cap)
index_free writer cap = ((tt, tt), if_done_free writer (makes_log writer cap) (log_free writer cap))

hostdir_free : (writer cap : ℕ) → IsFree (makes_hostdir writer cap)
hostdir_free writer cap = ((tt, tt), if_done_free writer (makes_index writer cap) (index_free writer cap))

if_floored_free : (writer cap : ℕ) (reply : Reply) → IsFree (if_floored writer cap reply)
if_floored_free writer cap (Floored floor) = hostdir_free writer cap
if_floored_free writer cap reply = ((tt, tt), λ left. tt)

if_entered_free : (cap : ℕ) (reply : Reply) → IsFree (if_entered cap reply)
if_entered_free cap (Entered writer) = ((tt, tt), if_floored_free writer cap)
if_entered_free cap reply = tt

if_made_free : (host cap : ℕ) → 1 ≤ cap → cap ≤ 4096 → (reply : Reply) → IsFree (if_made host cap reply)
if_made_free host cap some few (Room room) = (((some, few), tt), if_entered_free cap)
if_made_free host cap some few reply = tt

pub open_free : (name : List ℕ) (host cap : ℕ) → 1 ≤ cap → cap ≤ 4096 → IsFree (open_program name host cap)
open_free name host cap some few = ((tt, tt), if_made_free host cap some few)

-- ---- writing

if_flushed_free : (handle : WriterHandle) (next : Program Call Reply WriterOut) → IsFree next → (reply : Reply) → IsFree (if_flushed handle next reply)
if_flushed_free handle next free (Flushed landed) = free
if_flushed_free handle next free reply = tt

flush_free : (handle : WriterHandle) (next : Program Call Reply WriterOut) → IsFree next → IsFree (flush_then handle next)
flush_free handle next free = ((tt, tt), if_flushed_free handle next free)

if_wrote_free : (handle : WriterHandle) (reply : Reply) → IsFree (if_wrote handle reply)
if_wrote_free handle (Wrote stamp) = tt
if_wrote_free handle reply = tt

writes_free : (handle : WriterHandle) (at : ℕ) (block : List ℕ) → IsFree (writes handle at block)
writes_free handle at block = ((tt, tt), if_wrote_free handle)

pub write_free : (handle : WriterHandle) (at : ℕ) (block : List ℕ) → IsFree (write_program handle at block)
write_free handle at block = elim (nat_le handle.cap handle.pending) as (λ b. IsFree (if b then flush_then handle (writes (flushed_of handle) at block) else writes handle at block)) [
  | true ↦ flush_free handle (writes (flushed_of handle) at block) (writes_free (flushed_of handle) at block)
  | false ↦ writes_free handle at block
]

-- ---- syncing

if_synced_free : (handle : WriterHandle) (reply : Reply) → IsFree (if_synced handle reply)
if_synced_free handle (Synced landed) = tt
if_synced_free handle reply = tt

index_synced_free : (handle : WriterHandle) → IsFree (syncs_index handle)
index_synced_free handle = ((tt, tt), if_synced_free handle)

flushes_free : (handle : WriterHandle) → IsFree (flushes_and_syncs handle)
flushes_free handle = elim (nat_eq handle.pending 0) as (λ b. IsFree (if b then syncs_index handle else flush_then handle (syncs_index (flushed_of handle)))) [
  | true ↦ index_synced_free handle
  | false ↦ flush_free handle (syncs_index (flushed_of handle)) (index_synced_free (flushed_of handle))
]

if_log_synced_free : (handle : WriterHandle) (reply : Reply) → IsFree (if_log_synced handle reply)
if_log_synced_free handle Done = flushes_free handle
if_log_synced_free handle reply = tt

pub sync_free : (handle : WriterHandle) → IsFree (sync_program handle)
sync_free handle = ((tt, tt), if_log_synced_free handle)

-- ---- closing

if_left_free : (handle : WriterHandle) (reply : Reply) → IsFree (if_left handle reply)
if_left_free handle Done = tt
if_left_free handle Fault = tt
if_left_free handle reply = tt

if_put_free : (handle : WriterHandle) (reply : Reply) → IsFree (if_put handle reply)
if_put_free handle Done = ((tt, tt), if_left_free handle)
if_put_free handle reply = tt

puts_free : (handle : WriterHandle) → IsFree (puts_meta handle)
puts_free handle = ((tt, tt), if_put_free (closing_of handle))

-- one program after another
pub then_free : {R S : Type 0} (p : Program Call Reply R) (next : R → Program Call Reply S) → ((r : R) → IsFree (next r)) → IsFree p → IsFree (followed_by p next)
then_free (done r) next goes free = goes r
then_free (ask q k) next goes free = (free.0, λ reply. then_free (k reply) next goes (free.1 reply))

kept_free : (handle : Option WriterHandle) (result : Result ℕ Stuck) → IsFree (if_kept handle result)
kept_free (Some handle) (Ok landed) = puts_free handle
kept_free handle result = tt

from_free : (b : Bool) (handle : WriterHandle) → IsFree (close_from b handle)
from_free true handle = puts_free handle
from_free false handle = then_free (sync_program handle) after_sync (λ out. kept_free out.handle out.result) (sync_free handle)

pub close_free : (handle : WriterHandle) → IsFree (close_program handle)
close_free handle = from_free handle.closing handle
