-- What calls of recovery have done, where they are answered so.
use Rattle.std.specs.Prelude.{◌≡◌, ◌≤◌, ℕ, ◌*◌, List, length, Bool, Option, Some, None, if◌then◌else◌}
use Rattle.plfs_types.specs.declared.limits.TheConstants.{ENTRY_SIZE}
use Rattle.container_layout.specs.declared.items.Item.TheVariants.{Index, Log}
use Rattle.store_api.specs.declared.tree.Room.{Room}
use Rattle.store_laws.specs.Files.{file_at, kept_at}
use Rattle.mount_model.specs.declared.call.Call.{Call}
use Rattle.mount_model.specs.declared.call.Call.TheVariants.{SyncDropping, Inspect, Mend, MendMeta, Bury}
use Rattle.mount_model.specs.Paths.{dropping_path, open_path}
use Rattle.mount_model.specs.State.{State}
use Rattle.mount_sound.specs.Items.{HasItem, HasMeta}
use Rattle.mount_sound.specs.Owed.{StandsInRoom}
use Rattle.mount_sound.specs.There.{landed_in}

-- the writer that the call takes for one that isn't live
abbrev pub recovers : Call → Option ℕ
recovers (Inspect writer) = Some writer
recovers (Mend room host writer count) = Some writer
recovers (MendMeta room host cover last) = Some cover.writer
recovers (Bury room host writer) = Some writer
recovers call = None

-- the writer's log is there, or its index dropping, and no loss of power takes a byte of it
pub record IsSyncedWhole (host writer : ℕ) (is_log : Bool) (room : Room) : Type 0 where
  pub content : List ℕ
  pub stands : HasItem room (if is_log then Log host writer else Index host writer) content
  pub kept : length content ≤ kept_at room (dropping_path is_log host writer)

-- the writer's index dropping is exactly so many entries, all of which have landed
pub record IsMended (host writer count : ℕ) (room : Room) : Type 0 where
  pub content : List ℕ
  pub stands : HasItem room (Index host writer) content
  pub landed : count ≡ landed_in room host writer
  pub exact : length content ≡ ENTRY_SIZE * count

-- what is so after a call that was answered Done
abbrev pub HasRecovered : Call → State → Type 0
HasRecovered (SyncDropping room host writer is_log) new = StandsInRoom new room (IsSyncedWhole host writer is_log)
HasRecovered (Mend room host writer count) new = StandsInRoom new room (IsMended host writer count)
HasRecovered (MendMeta room host cover last) new = StandsInRoom new room (λ now. HasMeta now host cover.writer)
HasRecovered (Bury room host writer) new = StandsInRoom new room (λ now. file_at now (open_path host writer) ≡ None)
HasRecovered call new = Unit {0}
