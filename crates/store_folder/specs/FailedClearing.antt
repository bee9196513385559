-- How far the calls came, where they failed, that clear what the making of a room left, or make a folder in its place.
use Rattle.std.specs.Prelude.{◌≡◌, ◌⊎◌, ℕ, ◌-◌, ◌^◌, ◌≤◌, List, [], ◌∷◌, Bool, true, false, Ok, Err}
use Rattle.folder_calls.specs.declared.failure.Failure.{Failure}
use Rattle.folder_calls.specs.declared.failure.Failure.TheVariants.{Failed, NoMemory}
use Rattle.folder_calls.specs.declared.reason.Kind.TheVariants.{File, Folder}
use Rattle.folder_calls.specs.Calls.{Log, Makes, looked_at, listed_folder, made_folder, removed_file, removed_folder}
use Rattle.store_folder.specs.ForEach.{ForEach, FailsAtOne}
use Rattle.store_folder.specs.Leftovers.{ClearsItem, Clears, PassesBy}
use Rattle.store_folder.specs.Paths.{IsNameable, item_of, building_path}

module _ {F : Type 0} where
  -- the look at an item of a leftover failed, or its removal did
  pub data FailsToRemoveLeftover (path : List ℕ) (log later : Log F) : Type 0 where
    not_looked : (told : Failure) → Makes (looked_at path (Err told) ∷ []) log later → FailsToRemoveLeftover path log later
    folder_stays : (told : Failure) → Makes (looked_at path (Ok Folder) ∷ removed_folder path (Err told) ∷ []) log later → FailsToRemoveLeftover path log later
    file_stays : (told : Failure) → Makes (looked_at path (Ok (File 0)) ∷ removed_file path (Err told) ∷ []) log later → FailsToRemoveLeftover path log later

  -- No call was made for an item: memory lacks for its path, or its name can't stand in one. Or its calls failed.
  pub data FailsToClearItem (folder : List ℕ) (failure : Failure) (name : List ℕ) (log later : Log F) : Type 0 where
    uncalled : (IsNameable name → failure ≡ NoMemory) → later ≡ log → FailsToClearItem folder failure name log later
    not_cleared : failure ≡ Failed → FailsToRemoveLeftover (item_of folder name) log later → FailsToClearItem folder failure name log later

  -- a folder could not be listed, or one of its items not cleared, or it was not removed once they were
  pub data FailsToEmpty (path : List ℕ) (log later : Log F) (failure : Failure) : Type 0 where
    not_listed : Makes (listed_folder path (Err failure) ∷ []) log later → FailsToEmpty path log later failure
    not_cleared : (names : List (List ℕ)) (told : Log F) → Makes (listed_folder path (Ok names) ∷ []) log told → FailsAtOne (ClearsItem path) (FailsToClearItem path failure) names told later → FailsToEmpty path log later failure
    not_removed : (names : List (List ℕ)) (told cleared : Log F) (cause : Failure) → failure ≡ Failed → Makes (listed_folder path (Ok names) ∷ []) log told → ForEach (ClearsItem path) names told cleared → Makes (removed_folder path (Err cause) ∷ []) cleared later → FailsToEmpty path log later failure

  -- the look at what stands at this path failed, or a folder is there that could not be emptied
  pub data FailsToClear (path : List ℕ) (log later : Log F) (failure : Failure) : Type 0 where
    not_looked : (told : Failure) → failure ≡ Failed → Makes (looked_at path (Err told) ∷ []) log later → FailsToClear path log later failure
    not_emptied : (seen : Log F) → Makes (looked_at path (Ok Folder) ∷ []) log seen → FailsToEmpty path seen later failure → FailsToClear path log later failure

  -- a leftover was cleared, or that failed
  abbrev pub ClearsUp : List ℕ → Log F → Log F → Type 0
  ClearsUp path log later = ((is_gone : Bool) × Clears path log later is_gone) ⊎ ((failure : Failure) × FailsToClear path log later failure)

  -- a folder could not be made at this path, or what stands there not be cleared, or it could not be made once that was
  pub data FailsToTry (path : List ℕ) (log later : Log F) (failure : Failure) : Type 0 where
    not_made : (told : Failure) → failure ≡ Failed → Makes (made_folder path (Err told) ∷ []) log later → FailsToTry path log later failure
    not_cleared : (taken : Log F) → Makes (made_folder path (Ok false) ∷ []) log taken → FailsToClear path taken later failure → FailsToTry path log later failure
    not_made_again : (told : Failure) (taken cleared : Log F) → failure ≡ Failed → Makes (made_folder path (Ok false) ∷ []) log taken → Clears path taken cleared true → Makes (made_folder path (Err told) ∷ []) cleared later → FailsToTry path log later failure

  -- The first k places for a new room were tried, and none was free. Then memory lacked for the path of the next, or it
  -- could not be tried, or all were tried that have a number.
  pub data FailsToTakePlace (root : List ℕ) (log later : Log F) (failure : Failure) : Type 0 where
    starved : (k : ℕ) → failure ≡ NoMemory → PassesBy root k log later → FailsToTakePlace root log later failure
    not_tried : (k : ℕ) (passed : Log F) → PassesBy root k log passed → FailsToTry (building_path root k) passed later failure → FailsToTakePlace root log later failure
    none_free : (k : ℕ) → 2 ^ 64 - 1 ≤ k → failure ≡ Failed → PassesBy root k log later → FailsToTakePlace root log later failure
