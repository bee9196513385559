-- What an index dropping of a sound mount is.
use Rattle.std.specs.Prelude.{◌≡◌, ◌≤◌, ◌/◌, ℕ, List, length, take, min}
use Rattle.plfs_types.specs.declared.limits.TheConstants.{ENTRY_SIZE}
use Rattle.store_api.specs.declared.tree.Room.{Room}
use Rattle.store_laws.specs.Prefix.{IsPrefix}
use Rattle.mount_sound.specs.Ledger.{Written, content}
use Rattle.mount_sound.specs.Dropping.{log_bytes, IsDropping}

-- how many whole entries so many bytes have
abbrev pub whole : List ℕ → ℕ
whole bytes = length bytes / ENTRY_SIZE

-- Its first entries, which end within the log, are the first that its writer issued, and the log begins with the bytes of their writes.
pub record HasLanded (room : Room) (host writer : ℕ) (issued : List Written) (bytes : List ℕ) : Type 0 where
  pub landed : ℕ
  pub within : landed ≤ length issued
  -- they are all of its whole entries, or all that the writer issued
  pub is : landed ≡ min (whole bytes) (length issued)
  pub dropping : IsDropping writer issued landed (length (log_bytes room host writer)) bytes
  pub logged : IsPrefix (content (take landed issued)) (log_bytes room host writer)
