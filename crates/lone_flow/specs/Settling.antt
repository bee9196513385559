-- The end of a writer that a caller has by itself.
use Rattle.std.specs.Prelude.{◌≡◌, ℕ, Option, Some, None, Result, Ok, Err}
use Rattle.mount_model.specs.State.{State}
use Rattle.lone_flow.specs.Driving.{BeginsToMake, Makes}
use Rattle.mount_model.specs.declared.stuck.Stuck.{Stuck}
use Rattle.mount_model.specs.declared.stuck.Stuck.TheVariants.{Fault}
use Rattle.writer_flow.specs.declared.handle.WriterHandle.{WriterHandle}
use Rattle.writer_flow.specs.declared.handle.WriterOut.{WriterOut}
use Rattle.writer_flow.specs.Syncing.{sync_program}
use Rattle.writer_flow.specs.Closing.{close_program}

-- it ended well, or in this trouble
abbrev pub closed_as : Result ℕ Stuck → Result (Unit {0}) Stuck
closed_as (Ok landed) = Ok tt
closed_as (Err why) = Err why

-- where the sync ended well the writer was closed, else nothing more was done
abbrev pub Closes : Option WriterHandle → Result ℕ Stuck → State → Result (Unit {0}) Stuck → State → Type 0
Closes handle (Err why) start told end = (told ≡ Err why) × (end ≡ start)
Closes None (Ok landed) start told end = (told ≡ Err Fault) × (end ≡ start)
Closes (Some handle) (Ok landed) start told end = (out : WriterOut) × Makes (close_program handle) start out end × (told ≡ closed_as out.result)

-- the writer was synced, and then closed
pub record Settles (handle : WriterHandle) (start : State) (told : Result (Unit {0}) Stuck) (end : State) : Type 0 where
  pub synced : WriterOut
  pub between : State
  pub syncs : Makes (sync_program handle) start synced between
  pub closes : Closes synced.handle synced.result between told end

-- the sync ended well, and the close was broken off
abbrev pub BeginsToClose : Option WriterHandle → Result ℕ Stuck → State → State → Type 0
BeginsToClose handle (Err why) start end = ⊥
BeginsToClose None (Ok landed) start end = ⊥
BeginsToClose (Some handle) (Ok landed) start end = BeginsToMake (close_program handle) start end

-- It was broken off in the sync, or behind it in the close. Its calls are a front of those.
pub data BeginsToSettle (handle : WriterHandle) (start end : State) : Type 0 where
  to_sync : BeginsToMake (sync_program handle) start end → BeginsToSettle handle start end
  to_close : (synced : WriterOut) (between : State) → Makes (sync_program handle) start synced between → BeginsToClose synced.handle synced.result between end → BeginsToSettle handle start end
