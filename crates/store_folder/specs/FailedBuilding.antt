-- How far the making of a room came where it failed: the calls up to the one that failed, or that found what stands in
-- the way, are those of a room that is made, and then come only those that clear what was built.
use Rattle.std.specs.Prelude.{◌≡◌, ℕ, List, [], ◌∷◌, All, Bool, Some, None, Result, Ok, Err}
use Rattle.folder_calls.specs.declared.failure.Failure.{Failure}
use Rattle.folder_calls.specs.declared.failure.Failure.TheVariants.{Failed, NoMemory}
use Rattle.folder_calls.specs.declared.reason.Kind.{Kind}
use Rattle.folder_calls.specs.Calls.{Log, Makes, looked_at, created_file, synced_file, made_folder, synced_folder, renamed_item}
use Rattle.folder_calls.specs.Parts.{IsRoomName}
use Rattle.store_folder.specs.FailedClearing.{ClearsUp, FailsToTakePlace}
use Rattle.store_folder.specs.Files.{IsNoFile}
use Rattle.store_folder.specs.ForEach.{ForEach, FailsAtOne}
use Rattle.store_folder.specs.NewRooms.{BuildsFolder, BuildsFile, TakesPlace, MakesRoom}
use Rattle.store_folder.specs.Paths.{IsNameable, item_of}

module _ {F : Type 0} where
  -- a folder of the new room: memory lacked for its path, or it was not made, or not synced
  pub data FailsToBuildFolder (new : List ℕ) (failure : Failure) (name : List ℕ) (log later : Log F) : Type 0 where
    starved : failure ≡ NoMemory → later ≡ log → FailsToBuildFolder new failure name log later
    not_made : (told : Failure) → failure ≡ Failed → Makes (made_folder (item_of new name) (Err told) ∷ []) log later → FailsToBuildFolder new failure name log later
    not_synced : (is_new : Bool) (told : Failure) → failure ≡ Failed → Makes (made_folder (item_of new name) (Ok is_new) ∷ synced_folder (item_of new name) (Err told) ∷ []) log later → FailsToBuildFolder new failure name log later

  -- a file was not made, or not synced, or what has its path is no plain file
  pub data FailsToPutFile (path : List ℕ) (log later : Log F) : Type 0 where
    not_made : (told : Failure) → Makes (created_file path (Err told) ∷ []) log later → FailsToPutFile path log later
    not_synced : (made : F) (told : Failure) → Makes (created_file path (Ok (Some made)) ∷ synced_file made (Err told) ∷ []) log later → FailsToPutFile path log later
    no_file : (end : Result Kind Failure) → IsNoFile end → Makes (created_file path (Ok None) ∷ looked_at path end ∷ []) log later → FailsToPutFile path log later

  -- a file of the new room: memory lacked for its path, or it was not put there
  pub data FailsToBuildFile (new : List ℕ) (failure : Failure) (name : List ℕ) (log later : Log F) : Type 0 where
    starved : failure ≡ NoMemory → later ≡ log → FailsToBuildFile new failure name log later
    not_put : failure ≡ Failed → FailsToPutFile (item_of new name) log later → FailsToBuildFile new failure name log later

  -- one of the folders or of the files was not made, or the folder of all was not synced, or not moved to the room's path
  pub data FailsToFill (new path : List ℕ) (folders files : List (List ℕ)) (log later : Log F) (failure : Failure) : Type 0 where
    no_folder : FailsAtOne (BuildsFolder new) (FailsToBuildFolder new failure) folders log later → FailsToFill new path folders files log later failure
    no_file : (between : Log F) → ForEach (BuildsFolder new) folders log between → FailsAtOne (BuildsFile new) (FailsToBuildFile new failure) files between later → FailsToFill new path folders files log later failure
    not_synced : (between filled : Log F) (told : Failure) → failure ≡ Failed → ForEach (BuildsFolder new) folders log between → ForEach (BuildsFile new) files between filled → Makes (synced_folder new (Err told) ∷ []) filled later → FailsToFill new path folders files log later failure
    not_moved : (between filled : Log F) (told : Failure) → failure ≡ Failed → ForEach (BuildsFolder new) folders log between → ForEach (BuildsFile new) files between filled → Makes (synced_folder new (Ok tt) ∷ renamed_item new path (Err told) ∷ []) filled later → FailsToFill new path folders files log later failure

  -- No call was made, for want of memory or for the name of a folder or a file. Or there was no place, or what was built
  -- in it failed and was cleared, as far as that went.
  pub data FailsToBuildRoom (root path : List ℕ) (folders files : List (List ℕ)) (log later : Log F) (failure : Failure) : Type 0 where
    uncalled : (All IsNameable folders → All IsNameable files → failure ≡ NoMemory) → later ≡ log → FailsToBuildRoom root path folders files log later failure
    no_place : FailsToTakePlace root log later failure → FailsToBuildRoom root path folders files log later failure
    not_filled : (new : List ℕ) (found troubled : Log F) → TakesPlace root new log found → FailsToFill new path folders files found troubled failure → ClearsUp new troubled later → FailsToBuildRoom root path folders files log later failure

  -- the name can't be a room's, or memory lacks, or the room was not built, or it stands there and ROOT was not synced
  pub data FailsToMakeRoom (root name : List ℕ) (folders files : List (List ℕ)) (log later : Log F) (failure : Failure) : Type 0 where
    uncalled : (IsRoomName name → IsNameable name → failure ≡ NoMemory) → later ≡ log → FailsToMakeRoom root name folders files log later failure
    not_built : FailsToBuildRoom root (item_of root name) folders files log later failure → FailsToMakeRoom root name folders files log later failure
    not_synced : failure ≡ Failed → MakesRoom root (item_of root name) folders files (Err failure) log later → FailsToMakeRoom root name folders files log later failure
