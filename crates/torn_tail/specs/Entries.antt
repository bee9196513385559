-- The entries of an index dropping, as they are checked in order: only what counts them is kept.
use Rattle.std.specs.Prelude.{ℕ, zero, suc, ◌+◌, ◌/◌, min, max, nat_le, Bool, true, false, if◌then◌else◌, List, length, drop}
use Rattle.index_entry.specs.Spelling.{entry_in}
use Rattle.plfs_types.specs.declared.entries.Entry.{Entry}
use Rattle.mount_model.specs.Entries.{is_next}
use Rattle.torn_tail.specs.declared.runs.Run.{Run}
use Rattle.torn_tail.specs.declared.entries.Went.{Went}
use Rattle.torn_tail.specs.declared.entries.Went.TheVariants.{On, Ends, Breaks}

abbrev pub no_entries : ℕ → Run
no_entries writer = record { cover = record { writer = writer; count = 0; bytes = 0; stamp = 0 }; last = 0 }

-- with one entry more
abbrev pub longer : Entry → Run → Run
longer e run = record {
  cover = record { writer = run.cover.writer; count = run.cover.count + 1; bytes = run.cover.bytes + e.len; stamp = e.stamp };
  last = max run.last (e.at + e.len);
}

-- The first of so many entries, with which the run goes on up to one that breaks a rule, or else one that ends past so
-- many bytes of the log; and how that went.
abbrev pub checked : ℕ → ℕ → List ℕ → Run → Went × Run
checked log zero bytes run = (On, run)
checked log (suc n) bytes run =
    if is_next run.cover (entry_in bytes)
    then (if nat_le ((entry_in bytes).physical + (entry_in bytes).len) log then checked log n (drop 40 bytes) (longer (entry_in bytes) run) else (Ends, run))
    else (Breaks, run)

-- the entries of the bytes that a Read of so many gave, of which none is looked at where one before ended past the log
abbrev pub looked : Bool → ℕ → ℕ → List ℕ → Run → Went × Run
looked true log asked bytes run = (Ends, run)
looked false log asked bytes run = checked log (min (length bytes / 40) asked) bytes run
