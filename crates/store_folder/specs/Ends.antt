-- How a step ended that a store made, and what it told of that.
use Rattle.std.specs.Prelude.{◌≡◌, ◌⊎◌, ℕ, false, Option, Result, Ok, Err}
use Rattle.plfs_types.specs.Counts.{HasRisen}
use Rattle.store_api.specs.declared.step.Answer.{Answer}
use Rattle.store_api.specs.declared.store.Trouble.{Trouble}
use Rattle.store_api.specs.declared.store.Trouble.TheVariants.{Fault, NoMemory}
use Rattle.store_api.specs.Step.{Step}
use Rattle.folder_calls.specs.declared.failure.Failure.{Failure}
use Rattle.folder_calls.specs.declared.failure.Failure.TheVariants.{Failed, NoMemory as Starved}
use Rattle.folder_calls.specs.Calls.{Log}
use Rattle.folder_calls.specs.Syncs.{HasFailedSync}
use Rattle.folder_calls.specs.Noted.{doubt_by}
use Rattle.folder_calls.specs.declared.reason.Reason.{Reason}
use Rattle.store_folder.specs.declared.store.StoreByCalls.{StoreByCalls}
use Rattle.store_folder.specs.declared.disk.Disk.{Disk}
use Rattle.store_folder.specs.Leaving.{Attempts}
use Rattle.store_folder.specs.Rooms.{IsStill}
use Rattle.store_folder.specs.Syncing.{is_refused, IsDoubtedFor}

-- what is told of a step that ended so
abbrev pub told_of : Result Answer Failure → Result Answer Trouble
told_of (Ok answer) = Ok answer
told_of (Err Failed) = Err Fault
told_of (Err Starved) = Err NoMemory

-- A step that is not refused ended as it was tried. What the calls had told before may have been forgotten at the start.
pub record Ends {C F : Type 0} (log : C → Log F) (old new : StoreByCalls C F) (step : Step) (result : Result Answer Trouble) : Type 0 where
  pub end : Result Answer Failure
  pub tells : result ≡ told_of end
  pub attempted : is_refused old.doubts step ≡ false → (start : Disk C F) × IsStill old.disk start × (log start.calls ≡ log old.disk.calls) × Attempts log start new.disk step end

-- Where a sync failed in a step, what the step syncs is in doubt afterwards, however the step ended, and for what the
-- calls told in that step. Where none did, nothing comes into doubt. That is so of the syncs that the calls count, up to 2^64 - 1, and of a told log. A step that
-- is refused makes no call.
pub record KeepsDoubts {C F : Type 0} (log : C → Log F) (unsynced : C → ℕ) (why : C → Option Reason) (old new : StoreByCalls C F) (step : Step) : Type 0 where
  pub doubted : is_refused old.doubts step ≡ false → HasRisen (unsynced old.disk.calls) (unsynced new.disk.calls) → IsDoubtedFor new.doubts step (doubt_by (why new.disk.calls))
  pub told : HasFailedSync (log old.disk.calls) (log new.disk.calls) → IsDoubtedFor new.doubts step (doubt_by (why new.disk.calls))
  pub only : HasRisen (unsynced old.disk.calls) (unsynced new.disk.calls) ⊎ (new.doubts ≡ old.doubts)
