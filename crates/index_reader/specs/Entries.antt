-- The entries of an index dropping, as they are checked in order.
use Rattle.std.specs.Prelude.{ℕ, zero, suc, ◌+◌, nat_le, if◌then◌else◌, List, [], ◌∷◌, ◌++◌, drop}
use Rattle.index_entry.specs.Spelling.{entry_in}
use Rattle.plfs_types.specs.declared.limits.TheConstants.{ENTRY_SIZE}
use Rattle.plfs_types.specs.declared.entries.Entry.{Entry}
use Rattle.mount_model.specs.Entries.{is_next}
use Rattle.index_reader.specs.declared.entries.Tail.{Tail}
use Rattle.index_reader.specs.declared.entries.Went.{Went}
use Rattle.index_reader.specs.declared.entries.Went.TheVariants.{On, Ends, Breaks}

-- with one entry more
abbrev pub longer : Entry → Tail → Tail
longer e tail = record {
  cover = record { writer = tail.cover.writer; count = tail.cover.count + 1; bytes = tail.cover.bytes + e.len; stamp = e.stamp };
  entries = tail.entries ++ e ∷ [];
}

-- The first of so many entries, with which the tail goes on up to one that breaks a rule, or else one that ends past
-- so many bytes of the log; and how that went.
abbrev pub checked : ℕ → ℕ → List ℕ → Tail → Went × Tail
checked log zero bytes tail = (On, tail)
checked log (suc n) bytes tail =
    if is_next tail.cover (entry_in bytes)
    then (if nat_le ((entry_in bytes).physical + (entry_in bytes).len) log then checked log n (drop ENTRY_SIZE bytes) (longer (entry_in bytes) tail) else (Ends, tail))
    else (Breaks, tail)
