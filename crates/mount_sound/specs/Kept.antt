-- What a room holds of a writer of the table, beside what it holds of every one.
use Rattle.std.specs.Prelude.{◌≡◌, ◌*◌, ◌≤◌, ◌<◌, ℕ, List, [], length, drop, true, Some, MatchOption}
use Rattle.plfs_types.specs.declared.limits.TheConstants.{ENTRY_SIZE}
use Rattle.plfs_types.specs.declared.entries.Entry.{Entry}
use Rattle.index_entry.specs.Spelling.{spelling_all}
use Rattle.container_layout.specs.declared.items.Item.TheVariants.{Trunc}
use Rattle.container_layout.specs.Paths.{hostdir_of}
use Rattle.store_api.specs.declared.tree.Room.{Room}
use Rattle.store_api.specs.Room.{has_folder}
use Rattle.store_laws.specs.Files.{file_at, kept_at}
use Rattle.store_laws.specs.Prefix.{IsPrefix}
use Rattle.mount_model.specs.declared.row.Row.{Row}
use Rattle.mount_model.specs.declared.row.Stage.TheVariants.{Closing}
use Rattle.mount_model.specs.Paths.{open_path, index_path, log_path}
use Rattle.mount_model.specs.Table.{rank, is_live}
use Rattle.mount_sound.specs.Entries.{AreEntriesOf, logged, last_stamp, greatest_end}
use Rattle.mount_sound.specs.Ledger.{Written, entries_in}
use Rattle.mount_sound.specs.Items.{HasItem, HasMeta}
use Rattle.mount_sound.specs.Dropping.{log_bytes}

-- an index dropping begins the writer's entries, and has at least so many of them
pub record Begins (issued : List Entry) (landed : ℕ) (bytes : List ℕ) : Type 0 where
  pub prefix : IsPrefix bytes (spelling_all issued)
  pub long : ENTRY_SIZE * landed ≤ length bytes

-- The table's numbers are those of the writes that it issued.
pub record AreItsNumbers (row : Row) (issued : List Entry) : Type 0 where
  pub stored : row.stored ≡ logged issued
  pub last : row.last ≡ last_stamp 0 issued
  pub end : row.end ≡ greatest_end issued
  pub landed : row.landed ≤ length issued
  pub pending : row.pending.entries ≡ drop row.landed issued
  pub log_mark : row.log_mark ≤ row.stored
  pub index_mark : row.index_mark ≤ row.landed

-- What is there of a live writer, by its stage.
pub record IsAtStage (room : Room) (row : Row) (issued : List Entry) : Type 0 where
  pub opened : file_at room (open_path row.host row.id) ≡ Some []
  pub unopened : rank row.stage < 4 → issued ≡ []
  pub floored : 1 ≤ rank row.stage → (stamp size : ℕ) (content : List ℕ) → HasItem room (Trunc stamp size) content → stamp ≤ row.floor
  pub housed : 2 ≤ rank row.stage → has_folder room (hostdir_of row.host) ≡ true
  pub indexed : 3 ≤ rank row.stage → (bytes : List ℕ) × (file_at room (index_path row.host row.id) ≡ Some bytes)
  pub logged : 4 ≤ rank row.stage → (bytes : List ℕ) × (file_at room (log_path row.host row.id) ≡ Some bytes)
  -- a metadata dropping comes last
  pub closing : HasMeta room row.host row.id → (row.stage ≡ Closing) × (row.pending.entries ≡ []) × (row.log_mark ≡ row.stored) × (row.index_mark ≡ row.landed)
  pub has_meta : row.has_meta ≡ true → HasMeta room row.host row.id

-- What a room holds of a writer of the table, live or dead.
pub record IsKept (room : Room) (row : Row) (issued : List Written) : Type 0 where
  -- stamps rise above the floor
  pub in_order : AreEntriesOf row.id row.floor 0 (entries_in issued)
  pub numbers : AreItsNumbers row (entries_in issued)
  pub index : MatchOption (file_at room (index_path row.host row.id)) (row.landed ≡ 0) (Begins (entries_in issued) row.landed)
  -- no loss of power takes what was synced
  pub log_long : row.log_mark ≤ length (log_bytes room row.host row.id)
  pub log_kept : row.log_mark ≤ kept_at room (log_path row.host row.id)
  pub index_kept : ENTRY_SIZE * row.index_mark ≤ kept_at room (index_path row.host row.id)
  pub alive : is_live row.stage ≡ true → IsAtStage room row (entries_in issued)
