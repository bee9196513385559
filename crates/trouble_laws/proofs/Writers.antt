-- The statements on a writer show no damage.
use Rattle.std.proofs.Common.{ℕ, nat_le, Bool, true, false, List, Option, Some, None}
use Rattle.std.specs.Prelude.{Result, Ok, Err, ◌==◌, if◌then◌else◌}
use Rattle.mount_model.specs.declared.call.Call.TheVariants.{Enter, Exit, Floor, Flush, MakeContainer, MakeHostdir, MakeIndex, MakeLog, PutMeta, SyncIndex, SyncLog, Write}
use Rattle.mount_model.specs.declared.call.Call.{Call}
use Rattle.mount_model.specs.declared.reply.Reply.{Reply}
use Rattle.mount_model.specs.declared.reply.Reply.TheVariants.{Damaged, Done, Entered, Fault, Floored, Flushed, Room, Synced, Wrote}
use Rattle.mount_model.specs.State.{State}
use Rattle.mount_undamaged.specs.Damage.{ShowsNoDamage}
use Rattle.mount_model.specs.declared.stuck.Stuck.{Stuck}
use Rattle.mount_model.specs.Program.{Program, done}
use Rattle.writer_flow.specs.declared.handle.WriterHandle.{WriterHandle}
use Rattle.writer_flow.specs.declared.handle.WriterOut.{WriterOut}
use Rattle.writer_flow.specs.Closing.{after_sync, close_from, close_program, exits, if_kept, if_left, if_put, puts_meta}
use Rattle.writer_flow.specs.Ending.{failed, trouble}
use Rattle.writer_flow.specs.Handle.{closing_of, flushed_of, opened_of}
use Rattle.writer_flow.specs.Opening.{Opening, enters, finds_floor, if_done, if_entered, if_floored, if_made, leaves, makes_hostdir, makes_index, makes_log, open_program}
use Rattle.writer_flow.specs.Syncing.{flushes_and_syncs, if_log_synced, if_synced, sync_program, syncs_index}
use Rattle.writer_flow.specs.Writing.{flush_then, if_flushed, if_wrote, write_program, writes}
use Rattle.trouble_laws.specs.Undamaged.{IsNoDamage, IsUndamaged}
use Rattle.trouble_laws.proofs.Walking.{Ends, ends_both, ends_call, ends_done}

trouble_plain : (reply : Reply) → ShowsNoDamage reply → IsNoDamage (trouble reply)
trouble_plain (Damaged folder file) shows = absurd shows
trouble_plain reply shows = tt

module _ (caller : ℕ) where
  -- ---- it is opened

  abbrev OpenEnds : Opening → Type 0
  OpenEnds program = (state : State) → Ends caller IsUndamaged program state

  leaves_end : (writer : ℕ) (why : Stuck) → IsNoDamage why → OpenEnds (leaves writer why)
  leaves_end writer why plain = ends_call caller IsUndamaged (Exit writer) (λ reply. done (Err why)) (λ reply shows. ends_done caller IsUndamaged (Err why) plain)

  if_done_ends : (writer : ℕ) (next : Opening) → OpenEnds next → (reply : Reply) → ShowsNoDamage reply → OpenEnds (if_done writer next reply)
  if_done_ends writer next on Done shows = on
  if_done_ends writer next on reply shows = leaves_end writer (trouble reply) (trouble_plain reply shows)

  log_ends : (writer cap : ℕ) → OpenEnds (makes_log writer cap)
  log_ends writer cap = ends_call caller IsUndamaged (MakeLog writer) (if_done writer (done (Ok (opened_of writer cap)))) (if_done_ends writer (done (Ok (opened_of writer cap))) (ends_done caller IsUndamaged (Ok (opened_of writer cap)) tt))

  index_ends : (writer cap : ℕ) → OpenEnds (makes_index writer cap)
  index_ends writer cap = ends_call caller IsUndamaged (MakeIndex writer) (if_done writer (makes_log writer cap)) (if_done_ends writer (makes_log writer cap) (log_ends writer cap))

  hostdir_ends : (writer cap : ℕ) → OpenEnds (makes_hostdir writer cap)
  hostdir_ends writer cap = ends_call caller IsUndamaged (MakeHostdir writer) (if_done writer (makes_index writer cap)) (if_done_ends writer (makes_index writer cap) (index_ends writer cap))

  if_floored_ends : (writer cap : ℕ) (reply : Reply) → ShowsNoDamage reply → OpenEnds (if_floored writer cap reply)
  if_floored_ends writer cap (Floored floor) shows = hostdir_ends writer cap
  if_floored_ends writer cap reply shows = leaves_end writer (trouble reply) (trouble_plain reply shows)

  floor_ends : (writer cap : ℕ) → OpenEnds (finds_floor writer cap)
  floor_ends writer cap = ends_call caller IsUndamaged (Floor writer) (if_floored writer cap) (if_floored_ends writer cap)

  if_entered_ends : (cap : ℕ) (reply : Reply) → ShowsNoDamage reply → OpenEnds (if_entered cap reply)
  if_entered_ends cap (Entered writer) shows = floor_ends writer cap
  if_entered_ends cap reply shows = ends_done caller IsUndamaged (Err (trouble reply)) (trouble_plain reply shows)

  enters_end : (room host cap : ℕ) → OpenEnds (enters room host cap)
  enters_end room host cap = ends_call caller IsUndamaged (Enter room host cap) (if_entered cap) (if_entered_ends cap)

  if_made_ends : (host cap : ℕ) (reply : Reply) → ShowsNoDamage reply → OpenEnds (if_made host cap reply)
  if_made_ends host cap (Room room) shows = enters_end room host cap
  if_made_ends host cap reply shows = ends_done caller IsUndamaged (Err (trouble reply)) (trouble_plain reply shows)

  pub open_ends : (name : List ℕ) (host cap : ℕ) → OpenEnds (open_program name host cap)
  open_ends name host cap = ends_call caller IsUndamaged (MakeContainer name) (if_made host cap) (if_made_ends host cap)

  -- ---- it is used

  abbrev pub IsPlainOut : WriterOut → Type 0
  IsPlainOut out = IsUndamaged out.result

  abbrev UseEnds : Program Call Reply WriterOut → Type 0
  UseEnds program = (state : State) → Ends caller IsPlainOut program state

  failed_ends : (handle : WriterHandle) (reply : Reply) → ShowsNoDamage reply → UseEnds (done (failed handle reply))
  failed_ends handle reply shows = ends_done caller IsPlainOut (failed handle reply) (trouble_plain reply shows)

  if_wrote_ends : (handle : WriterHandle) (reply : Reply) → ShowsNoDamage reply → UseEnds (if_wrote handle reply)
  if_wrote_ends handle (Wrote stamp) shows = ends_done caller IsPlainOut _ tt
  if_wrote_ends handle reply shows = failed_ends handle reply shows

  writes_end : (handle : WriterHandle) (at : ℕ) (block : List ℕ) → UseEnds (writes handle at block)
  writes_end handle at block = ends_call caller IsPlainOut (Write handle.writer at block) (if_wrote handle) (if_wrote_ends handle)

  if_flushed_ends : (handle : WriterHandle) (next : Program Call Reply WriterOut) → UseEnds next → (reply : Reply) → ShowsNoDamage reply → UseEnds (if_flushed handle next reply)
  if_flushed_ends handle next on (Flushed landed) shows = on
  if_flushed_ends handle next on reply shows = failed_ends handle reply shows

  flush_ends : (handle : WriterHandle) (next : Program Call Reply WriterOut) → UseEnds next → UseEnds (flush_then handle next)
  flush_ends handle next on = ends_call caller IsPlainOut (Flush handle.writer) (if_flushed handle next) (if_flushed_ends handle next on)

  either_ends : (b : Bool) (p q : Program Call Reply WriterOut) → UseEnds p → UseEnds q → UseEnds (if b then p else q)
  either_ends true p q one other = one
  either_ends false p q one other = other

  pub write_ends : (handle : WriterHandle) (at : ℕ) (block : List ℕ) → UseEnds (write_program handle at block)
  write_ends handle at block = either_ends (nat_le handle.cap handle.pending) (flush_then handle (writes (flushed_of handle) at block)) (writes handle at block)
      (flush_ends handle (writes (flushed_of handle) at block) (writes_end (flushed_of handle) at block)) (writes_end handle at block)

  if_synced_ends : (handle : WriterHandle) (reply : Reply) → ShowsNoDamage reply → UseEnds (if_synced handle reply)
  if_synced_ends handle (Synced landed) shows = ends_done caller IsPlainOut _ tt
  if_synced_ends handle reply shows = failed_ends handle reply shows

  sync_index_ends : (handle : WriterHandle) → UseEnds (syncs_index handle)
  sync_index_ends handle = ends_call caller IsPlainOut (SyncIndex handle.writer) (if_synced handle) (if_synced_ends handle)

  flushes_end : (handle : WriterHandle) → UseEnds (flushes_and_syncs handle)
  flushes_end handle = either_ends (handle.pending == 0) (syncs_index handle) (flush_then handle (syncs_index (flushed_of handle)))
      (sync_index_ends handle) (flush_ends handle (syncs_index (flushed_of handle)) (sync_index_ends (flushed_of handle)))

  if_log_synced_ends : (handle : WriterHandle) (reply : Reply) → ShowsNoDamage reply → UseEnds (if_log_synced handle reply)
  if_log_synced_ends handle Done shows = flushes_end handle
  if_log_synced_ends handle reply shows = failed_ends handle reply shows

  pub sync_ends : (handle : WriterHandle) → UseEnds (sync_program handle)
  sync_ends handle = ends_call caller IsPlainOut (SyncLog handle.writer) (if_log_synced handle) (if_log_synced_ends handle)

  -- ---- it is closed

  if_left_ends : (handle : WriterHandle) (reply : Reply) → ShowsNoDamage reply → UseEnds (if_left handle reply)
  if_left_ends handle Done shows = ends_done caller IsPlainOut _ tt
  if_left_ends handle Fault shows = ends_done caller IsPlainOut _ tt
  if_left_ends handle reply shows = failed_ends handle reply shows

  exits_end : (handle : WriterHandle) → UseEnds (exits handle)
  exits_end handle = ends_call caller IsPlainOut (Exit handle.writer) (if_left handle) (if_left_ends handle)

  if_put_ends : (handle : WriterHandle) (reply : Reply) → ShowsNoDamage reply → UseEnds (if_put handle reply)
  if_put_ends handle Done shows = exits_end handle
  if_put_ends handle reply shows = failed_ends handle reply shows

  puts_end : (handle : WriterHandle) → UseEnds (puts_meta handle)
  puts_end handle = ends_call caller IsPlainOut (PutMeta handle.writer) (if_put (closing_of handle)) (if_put_ends (closing_of handle))

  if_kept_ends : (handle : Option WriterHandle) (result : Result ℕ Stuck) → IsUndamaged result → UseEnds (if_kept handle result)
  if_kept_ends (Some handle) (Ok landed) plain = puts_end handle
  if_kept_ends (Some handle) (Err why) plain = ends_done caller IsPlainOut (record { handle = Some handle; result = Err why }) plain
  if_kept_ends None (Ok landed) plain = ends_done caller IsPlainOut (record { handle = None; result = Ok landed }) plain
  if_kept_ends None (Err why) plain = ends_done caller IsPlainOut (record { handle = None; result = Err why }) plain

  close_from_ends : (closing : Bool) (handle : WriterHandle) → UseEnds (close_from closing handle)
  close_from_ends true handle = puts_end handle
  close_from_ends false handle = λ state.
      ends_both caller IsPlainOut IsPlainOut (λ s. Unit {0}) (λ issued old new other asked reply may step s f. tt) (sync_program handle) after_sync state tt (sync_ends handle state) (λ out plain then_ f. if_kept_ends out.handle out.result plain then_)

  pub close_ends : (handle : WriterHandle) → UseEnds (close_program handle)
  close_ends handle = close_from_ends handle.closing handle
