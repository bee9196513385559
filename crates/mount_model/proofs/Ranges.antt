-- The numbers of a writer stay in their ranges, whatever becomes of it.
use Rattle.std.proofs.Common.{◌≡◌, ℕ, ◌+◌, ◌-◌, ◌<◌, ◌≤◌, ◌^◌, List, [], ◌∷◌, ◌++◌, length, max, refl, inl, inr, arith}
use Rattle.std.proofs.lemmas.List.{length-append}
use Rattle.std.proofs.lemmas.List.Elements.{All-nil, All-cons, All-append}
use Rattle.plfs_types.specs.declared.entries.Entry.{Entry}
use Rattle.plfs_types.specs.declared.limits.TheConstants.{MAX_TIME}
use Rattle.plfs_types.specs.Stamps.{next_stamp}
use Rattle.index_entry.specs.Valid.{IsValidEntry}
use Rattle.mount_model.specs.declared.row.Row.{Row}
use Rattle.mount_model.specs.State.{State}
use Rattle.mount_model.specs.Regular.{IsCounted}
use Rattle.mount_model.specs.Entering.{entered}
use Rattle.mount_model.specs.Listed.{IsGreatest, HasStamp}
use Rattle.mount_model.specs.Flooring.{floored}
use Rattle.mount_model.specs.Paths.{Name}
use Rattle.mount_model.specs.Table.{at_stage}
use Rattle.mount_model.specs.declared.row.Stage.{Stage}
use Rattle.mount_model.specs.Writing.{entry_of, wrote, stamp_at}
use Rattle.mount_model.specs.Flushing.{flushed, log_synced, index_synced}
use Rattle.mount_model.specs.Leaving.{closed}
use Rattle.mount_model.proofs.Deciding.{MayWrite}

pub counted_entered : (old : State) (caller room host most : ℕ) → host < 2 ^ 32 → 1 ≤ most → most ≤ 4096 → IsCounted (entered old caller room host most)
counted_entered old caller room host most fits some few = record {
  host_fits = fits;
  some_cap = some;
  cap_fits = few;
  log_marked = omega arith;
  index_marked = omega arith;
  within_cap = omega arith;
  valid = All-nil IsValidEntry;
  entries = omega arith;
  stored_fits = omega arith;
  end_fits = omega arith;
  last_fits = omega arith;
  floor_fits = omega arith;
  written = inl (refl, refl, refl);
}

pub counted_staged : (stage : Stage) (row : Row) → IsCounted row → IsCounted (at_stage stage row)
counted_staged stage row c = record {
  host_fits = c.host_fits;
  some_cap = c.some_cap;
  cap_fits = c.cap_fits;
  log_marked = c.log_marked;
  index_marked = c.index_marked;
  within_cap = c.within_cap;
  valid = c.valid;
  entries = c.entries;
  stored_fits = c.stored_fits;
  end_fits = c.end_fits;
  last_fits = c.last_fits;
  floor_fits = c.floor_fits;
  written = c.written;
}

pub counted_log_synced : (row : Row) → IsCounted row → IsCounted (log_synced row)
counted_log_synced row c = record {
  host_fits = c.host_fits;
  some_cap = c.some_cap;
  cap_fits = c.cap_fits;
  log_marked = omega arith;
  index_marked = c.index_marked;
  within_cap = c.within_cap;
  valid = c.valid;
  entries = c.entries;
  stored_fits = c.stored_fits;
  end_fits = c.end_fits;
  last_fits = c.last_fits;
  floor_fits = c.floor_fits;
  written = c.written;
}

pub counted_index_synced : (row : Row) → IsCounted row → IsCounted (index_synced row)
counted_index_synced row c = record {
  host_fits = c.host_fits;
  some_cap = c.some_cap;
  cap_fits = c.cap_fits;
  log_marked = c.log_marked;
  index_marked = omega arith;
  within_cap = c.within_cap;
  valid = c.valid;
  entries = c.entries;
  stored_fits = c.stored_fits;
  end_fits = c.end_fits;
  last_fits = c.last_fits;
  floor_fits = c.floor_fits;
  written = c.written;
}

pub counted_closed : (row : Row) → IsCounted row → IsCounted (closed row)
counted_closed row c = record {
  host_fits = c.host_fits;
  some_cap = c.some_cap;
  cap_fits = c.cap_fits;
  log_marked = c.log_marked;
  index_marked = c.index_marked;
  within_cap = c.within_cap;
  valid = c.valid;
  entries = c.entries;
  stored_fits = c.stored_fits;
  end_fits = c.end_fits;
  last_fits = c.last_fits;
  floor_fits = c.floor_fits;
  written = c.written;
}

pub counted_floored : (floor : ℕ) (row : Row) → floor < 2 ^ 63 → IsCounted row → IsCounted (floored floor row)
counted_floored floor row fits c = record {
  host_fits = c.host_fits;
  some_cap = c.some_cap;
  cap_fits = c.cap_fits;
  log_marked = c.log_marked;
  index_marked = c.index_marked;
  within_cap = c.within_cap;
  valid = c.valid;
  entries = c.entries;
  stored_fits = c.stored_fits;
  end_fits = c.end_fits;
  last_fits = c.last_fits;
  floor_fits = omega (arith, fits);
  written = c.written;
}

pub counted_flushed : (row : Row) → IsCounted row → IsCounted (flushed row)
counted_flushed row c = record {
  host_fits = c.host_fits;
  some_cap = c.some_cap;
  cap_fits = c.cap_fits;
  log_marked = c.log_marked;
  index_marked = omega (arith, c.index_marked);
  within_cap = omega arith;
  valid = All-nil IsValidEntry;
  entries = omega (arith, c.entries);
  stored_fits = c.stored_fits;
  end_fits = c.end_fits;
  last_fits = c.last_fits;
  floor_fits = c.floor_fits;
  written = c.written;
}

-- a stamp is at least 1, above the last one and the floor, and may be stored
pub record IsStamp (last floor stamp : ℕ) : Type 0 where
  pub some : 1 ≤ stamp
  pub later : last < stamp
  pub above : floor < stamp
  pub fits : stamp < 2 ^ 63

pub next_is_stamp : (time last floor : ℕ) → last < 2 ^ 63 - 1 → floor < 2 ^ 63 - 1 → IsStamp last floor (next_stamp time last floor)
next_is_stamp time last floor l f =
    let latest : MAX_TIME ≡ 2 ^ 62 = refl in
    record { some = omega arith; later = omega arith; above = omega arith; fits = omega (arith, latest) }

pub valid_entry : (stamp : ℕ) (row : Row) (at len : ℕ) → 1 ≤ len → at + len ≤ 2 ^ 40 → 1 ≤ stamp → stamp < 2 ^ 63 → IsValidEntry (entry_of stamp row at len)
valid_entry stamp row at len some near stamped fits = record { not_empty = some; near = near; stamped = stamped; stamp_fits = omega (arith, fits) }

one_more : (entries : List Entry) (e : Entry) → length (entries ++ e ∷ []) ≡ length entries + 1
one_more entries e = omega (arith, length-append entries (e ∷ []))

greater_fits : (a b most : ℕ) → a ≤ most → b ≤ most → max a b ≤ most
greater_fits a b most l m = omega arith

greater_some : (a b : ℕ) → 0 < b → 0 < max a b
greater_some a b l = omega arith

counted_by : (stamp : ℕ) (row : Row) (at len : ℕ) → 1 ≤ len → MayWrite row at len → IsStamp row.last row.floor stamp → IsCounted row → IsCounted (wrote stamp row at len)
counted_by stamp row at len some may s c =
    let longer : length (row.pending.entries ++ entry_of stamp row at len ∷ []) ≡ length row.pending.entries + 1 = one_more row.pending.entries (entry_of stamp row at len) in
    record {
      host_fits = c.host_fits;
      some_cap = c.some_cap;
      cap_fits = c.cap_fits;
      log_marked = omega (arith, c.log_marked);
      index_marked = c.index_marked;
      within_cap = omega (arith, longer, may.free);
      valid = All-append IsValidEntry row.pending.entries (entry_of stamp row at len ∷ []) c.valid
          (All-cons IsValidEntry (entry_of stamp row at len) [] (valid_entry stamp row at len some may.near s.some s.fits) (All-nil IsValidEntry));
      entries = omega (arith, longer, c.entries, some);
      stored_fits = may.few;
      end_fits = greater_fits row.end (at + len) (2 ^ 40) c.end_fits may.near;
      last_fits = omega (arith, s.fits);
      floor_fits = c.floor_fits;
      written = inr (omega (arith, some), greater_some row.end (at + len) (omega (arith, some)), s.some);
    }

pub counted_wrote : (time : ℕ) (row : Row) (at len : ℕ) → 1 ≤ len → MayWrite row at len → IsCounted row → IsCounted (wrote (stamp_at time row) row at len)
counted_wrote time row at len some may c = counted_by (stamp_at time row) row at len some may (next_is_stamp time row.last row.floor may.last may.floor) c

-- the floor is a truncate's stamp, or 0
pub floor_fits : (names : List Name) (floor : ℕ) → IsGreatest HasStamp names floor → floor < 2 ^ 63
floor_fits names floor is = elim (is.reached) as (λ _. floor < 2 ^ 63) [
  | inl (none, zero_is) ↦ omega (arith, zero_is)
  | inr any ↦ omega (arith, any.4.1.is_item.in_range.stamp_fits)
]
