-- A writer's numbers stay in their ranges.
use Rattle.std.proofs.Common.{ℕ, ◌≤◌, arith, inr}
use Rattle.std.proofs.lemmas.List.{length_push}
use Rattle.std.proofs.lemmas.List.Elements.{All-nil, All-push}
use Rattle.plfs_types.specs.declared.limits.TheConstants.{MAX_STAMP}
use Rattle.index_entry.specs.Valid.{IsValidEntry}
use Rattle.mount_model.specs.declared.row.Row.{Row}
use Rattle.mount_model.specs.declared.row.Stage.{Stage}
use Rattle.mount_model.specs.Table.{at_stage}
use Rattle.mount_model.specs.Regular.{IsCounted}
use Rattle.mount_model.specs.Leaving.{closed}
use Rattle.mount_model.specs.Flooring.{floored}
use Rattle.mount_model.specs.Flushing.{flushed, log_synced, index_synced}
use Rattle.mount_model.specs.Writing.{wrote, entry_of}
use Rattle.mount_table.specs.Writable.{MayTake, IsStampFor}

pub at_stage_counted : (stage : Stage) (row : Row) → IsCounted row → IsCounted (at_stage stage row)
at_stage_counted stage row c = record { host_fits = c.host_fits; some_cap = c.some_cap; cap_fits = c.cap_fits; log_marked = c.log_marked; index_marked = c.index_marked; within_cap = c.within_cap; valid = c.valid; entries = c.entries; stored_fits = c.stored_fits; end_fits = c.end_fits; last_fits = c.last_fits; floor_fits = c.floor_fits; written = c.written }

pub closed_counted : (row : Row) → IsCounted row → IsCounted (closed row)
closed_counted row c = record { host_fits = c.host_fits; some_cap = c.some_cap; cap_fits = c.cap_fits; log_marked = c.log_marked; index_marked = c.index_marked; within_cap = c.within_cap; valid = c.valid; entries = c.entries; stored_fits = c.stored_fits; end_fits = c.end_fits; last_fits = c.last_fits; floor_fits = c.floor_fits; written = c.written }

pub log_synced_counted : (row : Row) → IsCounted row → IsCounted (log_synced row)
log_synced_counted row c = record { host_fits = c.host_fits; some_cap = c.some_cap; cap_fits = c.cap_fits; log_marked = omega arith; index_marked = c.index_marked; within_cap = c.within_cap; valid = c.valid; entries = c.entries; stored_fits = c.stored_fits; end_fits = c.end_fits; last_fits = c.last_fits; floor_fits = c.floor_fits; written = c.written }

pub index_synced_counted : (row : Row) → IsCounted row → IsCounted (index_synced row)
index_synced_counted row c = record { host_fits = c.host_fits; some_cap = c.some_cap; cap_fits = c.cap_fits; log_marked = c.log_marked; index_marked = omega arith; within_cap = c.within_cap; valid = c.valid; entries = c.entries; stored_fits = c.stored_fits; end_fits = c.end_fits; last_fits = c.last_fits; floor_fits = c.floor_fits; written = c.written }

pub floored_counted : (floor : ℕ) (row : Row) → floor ≤ MAX_STAMP → IsCounted row → IsCounted (floored floor row)
floored_counted floor row fits c = record { host_fits = c.host_fits; some_cap = c.some_cap; cap_fits = c.cap_fits; log_marked = c.log_marked; index_marked = c.index_marked; within_cap = c.within_cap; valid = c.valid; entries = c.entries; stored_fits = c.stored_fits; end_fits = c.end_fits; last_fits = c.last_fits; floor_fits = fits; written = c.written }

pub flushed_counted : (row : Row) → IsCounted row → IsCounted (flushed row)
flushed_counted row c = record { host_fits = c.host_fits; some_cap = c.some_cap; cap_fits = c.cap_fits; log_marked = c.log_marked; index_marked = omega (arith, c.index_marked); within_cap = omega arith; valid = All-nil IsValidEntry; entries = omega (arith, c.entries); stored_fits = c.stored_fits; end_fits = c.end_fits; last_fits = c.last_fits; floor_fits = c.floor_fits; written = c.written }

pub entry_valid : (stamp : ℕ) (row : Row) (at len : ℕ) → MayTake row at len → IsStampFor row stamp → IsValidEntry (entry_of stamp row at len)
entry_valid stamp row at len fine stamped = record { not_empty = fine.some; near = fine.near; stamped = omega (arith, stamped.later); stamp_fits = omega (arith, stamped.fits) }

pub wrote_counted : (stamp : ℕ) (row : Row) (at len : ℕ) → MayTake row at len → IsStampFor row stamp → IsCounted row → IsCounted (wrote stamp row at len)
wrote_counted stamp row at len fine stamped c =
    let more = length_push row.pending.entries (entry_of stamp row at len) in
    record {
      host_fits = c.host_fits;
      some_cap = c.some_cap;
      cap_fits = c.cap_fits;
      log_marked = omega (arith, c.log_marked);
      index_marked = c.index_marked;
      within_cap = omega (arith, more, fine.room);
      valid = All-push IsValidEntry row.pending.entries (entry_of stamp row at len) c.valid (entry_valid stamp row at len fine stamped);
      entries = omega (arith, more, c.entries, fine.some);
      stored_fits = fine.small;
      end_fits = omega (arith, c.end_fits, fine.near);
      last_fits = stamped.fits;
      floor_fits = c.floor_fits;
      written = inr (omega (arith, fine.some), omega (arith, fine.some), omega (arith, stamped.later));
    }
