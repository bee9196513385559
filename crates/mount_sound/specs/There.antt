-- What has landed in an index dropping, by its bytes and those of its log alone.
use Rattle.std.specs.Prelude.{ℕ, List, length}
use Rattle.plfs_types.specs.declared.entries.Entry.{Entry}
use Rattle.index_entry.specs.Within.{within_log}
use Rattle.store_api.specs.declared.tree.Room.{Room}
use Rattle.store_laws.specs.Files.{file_at}
use Rattle.mount_model.specs.Paths.{index_path}
use Rattle.mount_sound.specs.Dropping.{bytes_of, log_bytes}
use Rattle.mount_sound.specs.Landed.{whole}

-- the entries of an index dropping that count: the first whole ones whose bytes the log has
abbrev pub entries_there : List ℕ → List ℕ → List Entry
entries_there index log = within_log (length log) (whole index) index

-- the entries that have landed of a writer, where a missing dropping or log counts as empty
abbrev pub landed_entries : Room → ℕ → ℕ → List Entry
landed_entries room host writer = entries_there (bytes_of (file_at room (index_path host writer))) (log_bytes room host writer)

-- how many have landed
abbrev pub landed_in : Room → ℕ → ℕ → ℕ
landed_in room host writer = length (landed_entries room host writer)
