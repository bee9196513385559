-- What a target has of its source that no loss of power takes there.
use Rattle.std.specs.Prelude.{◌≤◌, ◌*◌, ℕ, length, take}
use Rattle.plfs_types.specs.declared.limits.TheConstants.{ENTRY_SIZE}
use Rattle.container_layout.specs.declared.items.Item.TheVariants.{Index}
use Rattle.container_layout.specs.Items.{IsItem}
use Rattle.store_api.specs.declared.tree.Room.{Room}
use Rattle.store_laws.specs.Files.{file_at}
use Rattle.mount_model.specs.Paths.{index_path}
use Rattle.mount_sound.specs.Dropping.{bytes_of, log_bytes}
use Rattle.mount_sound.specs.Entries.{logged}
use Rattle.mount_sound.specs.Keeping.{kept_in}
use Rattle.mount_sound.specs.Ledger.{entries_in}
use Rattle.reader_laws.specs.Moments.{Moment}

-- The target's files of each writer reach no further than the entries, and their bytes, that the source's room keeps.
pub record IsKeptThere (source : Moment) (number : ℕ) (there room : Room) : Type 0 where
  pub index : (host writer : ℕ) → IsItem (Index host writer) → length (bytes_of (file_at room (index_path host writer))) ≤ ENTRY_SIZE * kept_in there host writer
  pub log : (host writer : ℕ) → IsItem (Index host writer) → length (log_bytes room host writer) ≤ logged (take (kept_in there host writer) (entries_in (source.issued number writer)))
