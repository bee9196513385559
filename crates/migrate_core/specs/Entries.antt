-- The entries of an index dropping, as they are read and checked in order.
use Rattle.std.specs.Prelude.{◌≡◌, ℕ, zero, suc, ◌+◌, ◌*◌, ◌≤◌, ◌&&◌, nat_le, if◌then◌else◌, List, [], ◌∷◌, ◌++◌, length, drop, Result, Ok, Err}
use Rattle.plfs_types.specs.declared.limits.TheConstants.{MAX_LOG}
use Rattle.plfs_types.specs.declared.entries.Entry.{Entry}
use Rattle.index_entry.specs.Entries.{AreEntriesOf, logged, last_stamp}
use Rattle.index_entry.specs.Spelling.{entry_in}
use Rattle.mount_model.specs.Entries.{is_next}
use Rattle.migrate_core.specs.declared.entries.Tail.{Tail}

abbrev pub no_entries : ℕ → Tail
no_entries writer = record { cover = record { writer = writer; count = 0; bytes = 0; stamp = 0 }; entries = [] }

-- with one entry more
abbrev pub longer : Entry → Tail → Tail
longer e tail = record {
  cover = record { writer = tail.cover.writer; count = tail.cover.count + 1; bytes = tail.cover.bytes + e.len; stamp = e.stamp };
  entries = tail.entries ++ e ∷ [];
}

-- With the first of so many entries that bytes have; or the place in the index dropping of the first one that breaks a
-- rule of its writer's entries, or that isn't there whole.
abbrev pub checked : ℕ → List ℕ → Tail → Result Tail ℕ
checked zero bytes tail = Ok tail
checked (suc n) bytes tail =
    if nat_le 40 (length bytes) && is_next tail.cover (entry_in bytes) then checked n (drop 40 bytes) (longer (entry_in bytes) tail) else Err (40 * tail.cover.count)

-- the cover tells of the entries, which keep all rules of its writer's
pub record IsTold (tail : Tail) : Type 0 where
  pub in_order : AreEntriesOf tail.cover.writer 0 0 tail.entries
  pub many : tail.cover.count ≡ length tail.entries
  pub sum : tail.cover.bytes ≡ logged tail.entries
  pub latest : tail.cover.stamp ≡ last_stamp 0 tail.entries
  pub near : tail.cover.bytes ≤ MAX_LOG
