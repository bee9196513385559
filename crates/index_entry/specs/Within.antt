-- Entries whose bytes lie within a log.
use Rattle.std.specs.Prelude.{ℕ, zero, suc, ◌+◌, List, [], ◌∷◌, drop, nat_le, if◌then◌else◌}
use Rattle.plfs_types.specs.declared.entries.Entry.{Entry}
use Rattle.plfs_types.specs.declared.limits.TheConstants.{ENTRY_SIZE}
use Rattle.index_entry.specs.Spelling.{entry_in}

-- of so many entries that bytes spell, valid or not, the first ones, up to one that ends past so many bytes of the log
abbrev pub within_log : ℕ → ℕ → List ℕ → List Entry
within_log log zero bytes = []
within_log log (suc count) bytes =
    if nat_le ((entry_in bytes).physical + (entry_in bytes).len) log
    then entry_in bytes ∷ within_log log count (drop ENTRY_SIZE bytes)
    else []
