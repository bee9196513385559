-- Syncs that failed, and how they are counted.
use Rattle.std.specs.Prelude.{◌≡◌, ℕ, ◌-◌, ◌^◌, ◌<◌, min, Bool, false, Some, None, Result, Ok, Err, is_err, count_by}
use Rattle.plfs_types.specs.Counts.{next_count}
use Rattle.folder_calls.specs.declared.failure.Failure.{Failure}
use Rattle.folder_calls.specs.Calls.{Call, Log, synced_file, synced_folder}

-- whether a call is a sync that failed
abbrev pub is_failed_sync : {F : Type 0} → Call F → Bool
is_failed_sync (synced_file file end) = is_err end
is_failed_sync (synced_folder path end) = is_err end
is_failed_sync other = false

-- a count of the syncs that failed in a told log, up to 2^64 - 1
abbrev pub IsCountOf : {F : Type 0} → Log F → ℕ → Type 0
IsCountOf None count = Unit {0}
IsCountOf (Some log) count = count ≡ min (count_by is_failed_sync log) (2 ^ 64 - 1)

-- the count after a sync that ended so
abbrev pub counting : Result (Unit {0}) Failure → ℕ → ℕ
counting (Ok done) count = count
counting (Err failure) count = next_count count

-- a sync failed between these two moments of a told log
abbrev pub HasFailedSync : {F : Type 0} → Log F → Log F → Type 0
HasFailedSync None later = ⊥
HasFailedSync (Some log) None = ⊥
HasFailedSync (Some log) (Some later) = count_by is_failed_sync log < count_by is_failed_sync later
