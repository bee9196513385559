-- Which of a writer's entries no loss of power takes.
use Rattle.std.specs.Prelude.{◌/◌, ℕ, List, take}
use Rattle.plfs_types.specs.declared.limits.TheConstants.{ENTRY_SIZE}
use Rattle.store_api.specs.declared.tree.Room.{Room}
use Rattle.store_laws.specs.Files.{kept_at}
use Rattle.mount_model.specs.declared.row.Row.{Row}
use Rattle.mount_model.specs.Paths.{index_path, log_path}
use Rattle.mount_sound.specs.Fitting.{fitting}
use Rattle.mount_sound.specs.Ledger.{Written, entries_in}
use Rattle.mount_sound.specs.There.{landed_entries}

-- how many of the entries that have landed lie, with their bytes, in what is kept of the droppings
abbrev pub kept_in : Room → ℕ → ℕ → ℕ
kept_in room host writer = fitting (kept_at room (log_path host writer)) 0 (take (kept_at room (index_path host writer) / ENTRY_SIZE) (landed_entries room host writer))

-- how many of these writes the marks of the writer tell: the first that it synced, as far as it had synced their bytes
abbrev pub safe_of : Row → List Written → ℕ
safe_of row writes = fitting row.log_mark 0 (take row.index_mark (entries_in writes))
