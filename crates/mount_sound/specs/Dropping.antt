-- What a room holds of a writer, open or not, that issued these writes.
use Rattle.std.specs.Prelude.{◌≡◌, ◌⊎◌, ◌^◌, ◌+◌, ◌-◌, ◌*◌, ◌≤◌, ◌<◌, ℕ, List, [], ◌∷◌, ◌++◌, length, take, Option, Some, None, MatchOption}
use Rattle.std.specs.List.{AllByRecursion}
use Rattle.plfs_types.specs.declared.limits.TheConstants.{ENTRY_SIZE, MAX_LOG}
use Rattle.plfs_types.specs.declared.entries.Entry.{Entry}
use Rattle.index_entry.specs.Spelling.{spelling_all}
use Rattle.container_layout.specs.declared.items.Item.TheVariants.{Meta, Trunc}
use Rattle.store_api.specs.declared.tree.Room.{Room}
use Rattle.store_laws.specs.Files.{file_at, kept_at}
use Rattle.store_laws.specs.Prefix.{IsPrefix}
use Rattle.mount_model.specs.Paths.{open_path, index_path, log_path}
use Rattle.mount_sound.specs.Entries.{AreEntriesOf, logged, last_stamp, greatest_end}
use Rattle.mount_sound.specs.Ledger.{Written, entries_in, content}
use Rattle.mount_sound.specs.Items.{HasItem, HasMeta, HasItemOf}

abbrev pub bytes_of : Option (List ℕ) → List ℕ
bytes_of None = []
bytes_of (Some bytes) = bytes

-- the bytes of a writer's log, where a missing one counts as empty
abbrev pub log_bytes : Room → ℕ → ℕ → List ℕ
log_bytes room host writer = bytes_of (file_at room (log_path host writer))

-- the first of these entries would end past so many bytes of a log, where so many are those of the entries before
abbrev pub EndPast : ℕ → ℕ → List Entry → Type 0
EndPast log before [] = Unit {0}
EndPast log before (e ∷ es) = log < before + e.len

-- An index dropping, beside a log of so many bytes, is the landed ones of the writer's entries, further ones by the same
-- rules that count as not there since they end past the log, and less than one more.
pub record IsDropping (writer : ℕ) (issued : List Written) (landed log : ℕ) (bytes : List ℕ) : Type 0 where
  pub more : List Entry
  pub tail : List ℕ
  pub spelled : bytes ≡ spelling_all (take landed (entries_in issued) ++ more) ++ tail
  pub torn : length tail < ENTRY_SIZE
  pub in_order : AreEntriesOf writer (last_stamp 0 (take landed (entries_in issued))) (logged (take landed (entries_in issued))) more
  pub few : logged more ≤ MAX_LOG - logged (take landed (entries_in issued))
  pub past : EndPast log (logged (take landed (entries_in issued))) more
  -- they stand behind all that the writer issued
  pub behind : (more ≡ []) ⊎ (landed ≡ length issued)

-- what a writer left that has a metadata dropping: its index dropping is exactly these entries, and no loss of power
-- takes one of them, or of their bytes
pub record IsKeptWhole (room : Room) (host writer : ℕ) (entries : List Entry) : Type 0 where
  pub index : bytes_of (file_at room (index_path host writer)) ≡ spelling_all entries
  pub index_kept : ENTRY_SIZE * length entries ≤ kept_at room (index_path host writer)
  pub log_kept : logged entries ≤ kept_at room (log_path host writer)

-- these are the greatest end, the bytes and the last stamp of the entries
pub record IsToldOf (last bytes stamp : ℕ) (entries : List Entry) : Type 0 where
  pub end : last ≡ greatest_end entries
  pub sum : bytes ≡ logged entries
  pub latest : stamp ≡ last_stamp 0 entries

-- the stamps of the entries are all below this one or all above it
abbrev pub AreBeside : ℕ → List Entry → Type 0
AreBeside stamp entries = AllByRecursion (λ (e : Entry). e.stamp < stamp) entries ⊎ AllByRecursion (λ (e : Entry). stamp < e.stamp) entries

-- What a room holds of one writer: of the writes that it issued, the first ones have landed.
pub record IsWriter (room : Room) (writer : ℕ) (issued : List Written) : Type 0 where
  -- all its items are of one host
  pub host : ℕ
  pub host_fits : host < 2 ^ 32
  pub one_host : (other : ℕ) → HasItemOf room other writer → other ≡ host
  -- so many of its entries have landed in its index dropping
  pub landed : ℕ
  pub within : landed ≤ length issued
  pub index : MatchOption (file_at room (index_path host writer)) (landed ≡ 0) (IsDropping writer issued landed (length (log_bytes room host writer)))
  -- its log begins with the bytes of its writes
  pub log : IsPrefix (content issued) (log_bytes room host writer)
  -- once it has left, what landed is told by a metadata dropping
  pub left : file_at room (open_path host writer) ≡ None → 1 ≤ landed → HasMeta room host writer
  pub told : (last bytes stamp : ℕ) (content : List ℕ) → HasItem room (Meta last bytes stamp host writer) content → IsToldOf last bytes stamp (take landed (entries_in issued))
  pub settled : HasMeta room host writer → IsKeptWhole room host writer (take landed (entries_in issued))
  -- no truncate is between two of its landed entries
  pub beside : (stamp size : ℕ) (content : List ℕ) → HasItem room (Trunc stamp size) content → AreBeside stamp (take landed (entries_in issued))
