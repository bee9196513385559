-- Which entry may come next in an index dropping.
use Rattle.std.specs.Prelude.{ℕ, ◌+◌, ◌-◌, ◌/◌, ◌&&◌, ◌==◌, min, nat_le, nat_lt, Bool}
use Rattle.plfs_types.specs.declared.limits.TheConstants.{ENTRIES_A_READ, MAX_SIZE, MAX_LOG, MAX_STAMP}
use Rattle.plfs_types.specs.declared.entries.Entry.{Entry}
use Rattle.plfs_types.specs.declared.entries.Cover.{Cover}

-- The entry is valid, and follows what this cover counts: it has its writer, a later stamp, and the next place in the
-- log, where it ends within the longest one.
abbrev pub is_next : Cover → Entry → Bool
is_next cover e =
    nat_lt 0 e.len && (nat_le e.at MAX_SIZE && (nat_le e.len (MAX_SIZE - e.at) && (nat_lt cover.stamp e.stamp && (nat_le e.stamp MAX_STAMP
    && ((e.writer == cover.writer) && ((e.physical == cover.bytes) && (nat_le e.physical MAX_LOG && nat_le e.len (MAX_LOG - e.physical))))))))

-- how many Reads so many entries take, 4096 by each
abbrev pub reads_of : ℕ → ℕ
reads_of left = (left + (ENTRIES_A_READ - 1)) / ENTRIES_A_READ

-- how many entries the next Read asks for
abbrev pub next_read : ℕ → ℕ
next_read left = min left ENTRIES_A_READ
