-- How far the calls of a step on a name came where it failed: with that of them which failed, or which found what stands
-- in the way. There is a line for each call that can end it.
use Rattle.std.specs.Prelude.{◌≡◌, ◌⊎◌, ℕ, position, List, [], ◌∷◌, Bool, true, false, nat_eq, string_bytes, Some, None, Result, Ok, Err}
use Rattle.std.specs.Cmp.Lexicographic.{pointwise}
use Rattle.store_api.specs.Names.{same_name}
use Rattle.store_api.specs.Step.{Step, rooms, find_room, make_room, rename_room, make_folder, remove_folder, list_folder, create, remove, replace}
use Rattle.folder_calls.specs.declared.calls.Removal.TheVariants.{Removed, NotEmpty}
use Rattle.folder_calls.specs.declared.failure.Failure.{Failure}
use Rattle.folder_calls.specs.declared.failure.Failure.TheVariants.{Failed, NoMemory}
use Rattle.folder_calls.specs.declared.reason.Kind.{Kind}
use Rattle.folder_calls.specs.declared.reason.Kind.TheVariants.{Absent as Nothing, File, Folder, Other}
use Rattle.folder_calls.specs.Calls.{Log, Makes, looked_at, listed_folder, created_file, made_folder, synced_folder, removed_file, removed_folder, renamed_item}
use Rattle.folder_calls.specs.Parts.{IsRoomName}
use Rattle.store_folder.specs.declared.disk.Disk.{Disk}
use Rattle.store_folder.specs.FailedBuilding.{FailsToMakeRoom}
use Rattle.store_folder.specs.Files.{IsNoFile}
use Rattle.store_folder.specs.Folders.{IsNoEntry, FailsToEnter}
use Rattle.store_folder.specs.Paths.{IsNameable, IsNameableFolder, item_of, room_path, folder_path}
use Rattle.store_folder.specs.Places.{IsNamed}
use Rattle.store_folder.specs.Rooms.{MovesRoom}
use Rattle.store_folder.specs.StepPlaces.{room_name}

-- a look that failed, or found what is no plain file
abbrev pub IsUnfit : Result Kind Failure → Type 0
IsUnfit (Ok Nothing) = ⊥
IsUnfit (Ok (File len)) = ⊥
IsUnfit (Ok Folder) = Unit {0}
IsUnfit (Ok Other) = Unit {0}
IsUnfit (Err failure) = Unit {0}

module _ {F : Type 0} (log later : Log F) where
  -- No call was made. If the names of the step can stand in paths, that was want of memory.
  abbrev pub FailsUncalled : Type 0 → Failure → Type 0
  FailsUncalled named failure = (named → failure ≡ NoMemory) × (later ≡ log)

  pub data FailsToMakeFolder (room folder : List ℕ) : Type 0 where
    no_room : (end : Result Kind Failure) → IsNoEntry end → Makes (looked_at room end ∷ []) log later → FailsToMakeFolder room folder
    not_made : (told : Failure) → Makes (looked_at room (Ok Folder) ∷ made_folder folder (Err told) ∷ []) log later → FailsToMakeFolder room folder
    not_synced : (told : Failure) → Makes (looked_at room (Ok Folder) ∷ made_folder folder (Ok true) ∷ synced_folder room (Err told) ∷ []) log later → FailsToMakeFolder room folder
    no_folder : (end : Result Kind Failure) → IsNoEntry end → Makes (looked_at room (Ok Folder) ∷ made_folder folder (Ok false) ∷ looked_at folder end ∷ []) log later → FailsToMakeFolder room folder

  -- a listing that wanted memory is told as that
  pub data FailsToRemoveTop (room : List ℕ) (failure : Failure) : Type 0 where
    no_room : (end : Result Kind Failure) → failure ≡ Failed → IsNoEntry end → Makes (looked_at room end ∷ []) log later → FailsToRemoveTop room failure
    not_listed : Makes (looked_at room (Ok Folder) ∷ listed_folder room (Err failure) ∷ []) log later → FailsToRemoveTop room failure

  pub data FailsToRemoveItem (room folder : List ℕ) (failure : Failure) : Type 0 where
    no_room : (end : Result Kind Failure) → failure ≡ Failed → IsNoEntry end → Makes (looked_at room end ∷ []) log later → FailsToRemoveItem room folder failure
    not_removed : (told : Failure) → failure ≡ Failed → Makes (looked_at room (Ok Folder) ∷ removed_folder folder (Err told) ∷ []) log later → FailsToRemoveItem room folder failure
    not_synced : (told : Failure) → failure ≡ Failed → Makes (looked_at room (Ok Folder) ∷ removed_folder folder (Ok Removed) ∷ synced_folder room (Err told) ∷ []) log later → FailsToRemoveItem room folder failure
    not_listed : Makes (looked_at room (Ok Folder) ∷ removed_folder folder (Ok NotEmpty) ∷ listed_folder folder (Err failure) ∷ []) log later → FailsToRemoveItem room folder failure
    none_listed : failure ≡ Failed → Makes (looked_at room (Ok Folder) ∷ removed_folder folder (Ok NotEmpty) ∷ listed_folder folder (Ok []) ∷ []) log later → FailsToRemoveItem room folder failure

  -- the top, or another folder, by its path
  abbrev pub FailsToRemoveSpot : Bool → List ℕ → List ℕ → Failure → Type 0
  FailsToRemoveSpot true room folder failure = FailsToRemoveTop room failure
  FailsToRemoveSpot false room folder failure = FailsToRemoveItem room folder failure

  -- the folder of this name, which is the top where it is empty
  abbrev pub FailsToRemoveFolder : List ℕ → List ℕ → Failure → Type 0
  FailsToRemoveFolder room [] failure = FailsToRemoveTop room failure
  FailsToRemoveFolder room (byte ∷ rest) failure = FailsToRemoveItem room (item_of room (byte ∷ rest)) failure

  pub data FailsToList (room folder : List ℕ) (failure : Failure) : Type 0 where
    not_entered : failure ≡ Failed → FailsToEnter log later room folder → FailsToList room folder failure
    not_listed : Makes (looked_at room (Ok Folder) ∷ looked_at folder (Ok Folder) ∷ listed_folder folder (Err failure) ∷ []) log later → FailsToList room folder failure

  pub data FailsToCreate (room folder file : List ℕ) : Type 0 where
    not_entered : FailsToEnter log later room folder → FailsToCreate room folder file
    not_made : (told : Failure) → Makes (looked_at room (Ok Folder) ∷ looked_at folder (Ok Folder) ∷ created_file (item_of folder file) (Err told) ∷ []) log later → FailsToCreate room folder file
    not_synced : (made : F) (told : Failure) → Makes (looked_at room (Ok Folder) ∷ looked_at folder (Ok Folder) ∷ created_file (item_of folder file) (Ok (Some made)) ∷ synced_folder folder (Err told) ∷ []) log later → FailsToCreate room folder file
    no_file : (end : Result Kind Failure) → IsNoFile end → Makes (looked_at room (Ok Folder) ∷ looked_at folder (Ok Folder) ∷ created_file (item_of folder file) (Ok None) ∷ looked_at (item_of folder file) end ∷ []) log later → FailsToCreate room folder file

  pub data FailsToRemove (room folder file : List ℕ) : Type 0 where
    not_entered : FailsToEnter log later room folder → FailsToRemove room folder file
    not_removed : (told : Failure) → Makes (looked_at room (Ok Folder) ∷ looked_at folder (Ok Folder) ∷ removed_file (item_of folder file) (Err told) ∷ []) log later → FailsToRemove room folder file
    not_synced : (told : Failure) → Makes (looked_at room (Ok Folder) ∷ looked_at folder (Ok Folder) ∷ removed_file (item_of folder file) (Ok true) ∷ synced_folder folder (Err told) ∷ []) log later → FailsToRemove room folder file

  pub data FailsToReplace (room folder from to : List ℕ) : Type 0 where
    not_entered : FailsToEnter log later room folder → FailsToReplace room folder from to
    no_file : (end : Result Kind Failure) → IsUnfit end → Makes (looked_at room (Ok Folder) ∷ looked_at folder (Ok Folder) ∷ looked_at (item_of folder from) end ∷ []) log later → FailsToReplace room folder from to
    not_renamed : (len : ℕ) (told : Failure) → pointwise nat_eq from to ≡ false → Makes (looked_at room (Ok Folder) ∷ looked_at folder (Ok Folder) ∷ looked_at (item_of folder from) (Ok (File len)) ∷ renamed_item (item_of folder from) (item_of folder to) (Err told) ∷ []) log later → FailsToReplace room folder from to
    not_synced : (len : ℕ) (told : Failure) → pointwise nat_eq from to ≡ false → Makes (looked_at room (Ok Folder) ∷ looked_at folder (Ok Folder) ∷ looked_at (item_of folder from) (Ok (File len)) ∷ renamed_item (item_of folder from) (item_of folder to) (Ok tt) ∷ synced_folder folder (Err told) ∷ []) log later → FailsToReplace room folder from to

  -- No call is made where the names can't stand in paths or the new one is no room's.
  pub data FailsToRenameRoom {C : Type 0} (disk : Disk C F) (room : ℕ) (to : List ℕ) (failure : Failure) : Type 0 where
    uncalled : (IsNameable (room_name disk room) → IsRoomName to → IsNameable to → failure ≡ NoMemory) → later ≡ log → FailsToRenameRoom disk room to failure
    not_renamed : failure ≡ Failed → Makes (renamed_item (room_path disk room) (item_of (string_bytes disk.root) to) (Err failure) ∷ []) log later → FailsToRenameRoom disk room to failure
    not_synced : failure ≡ Failed → MovesRoom (string_bytes disk.root) (room_path disk room) to (Err Failed) log later → FailsToRenameRoom disk room to failure

-- the names of this folder and its room can stand in paths
abbrev pub IsNamedFolder : {C F : Type 0} → Disk C F → ℕ → List ℕ → Type 0
IsNamedFolder disk room folder = IsNameable (room_name disk room) × IsNameableFolder folder

module _ {C F : Type 0} (disk : Disk C F) (log later : Log F) where
  -- A step failed with no call, or its calls did, which are these. No room has the name of one that could not be made. A
  -- step on a file's content ends as is said of its file.
  abbrev pub Fails : Step → Failure → Type 0
  Fails rooms failure = (failure ≡ NoMemory) × (later ≡ log)
  Fails (find_room name) failure = ⊥
  Fails (make_room name folders files) failure =
      (position (λ there. same_name there name) disk.rooms.items ≡ None) × FailsToMakeRoom (string_bytes disk.root) name folders files log later failure
  Fails (rename_room room to) failure = FailsToRenameRoom log later disk room to failure
  Fails (make_folder room folder) failure =
      FailsUncalled log later (IsNamedFolder disk room folder) failure ⊎ ((failure ≡ Failed) × FailsToMakeFolder log later (room_path disk room) (folder_path (room_path disk room) folder))
  Fails (remove_folder room folder) failure = FailsUncalled log later (IsNamedFolder disk room folder) failure ⊎ FailsToRemoveFolder log later (room_path disk room) folder failure
  Fails (list_folder room folder) failure =
      FailsUncalled log later (IsNamedFolder disk room folder) failure ⊎ FailsToList log later (room_path disk room) (folder_path (room_path disk room) folder) failure
  Fails (create room folder file) failure =
      FailsUncalled log later (IsNamed disk (record { room = room; folder = folder; file = file })) failure
      ⊎ ((failure ≡ Failed) × FailsToCreate log later (room_path disk room) (folder_path (room_path disk room) folder) file)
  Fails (remove room folder file) failure =
      FailsUncalled log later (IsNamed disk (record { room = room; folder = folder; file = file })) failure
      ⊎ ((failure ≡ Failed) × FailsToRemove log later (room_path disk room) (folder_path (room_path disk room) folder) file)
  Fails (replace room folder from to) failure =
      FailsUncalled log later (IsNamed disk (record { room = room; folder = folder; file = from }) × IsNameable to) failure
      ⊎ ((failure ≡ Failed) × FailsToReplace log later (room_path disk room) (folder_path (room_path disk room) folder) from to)
  Fails other failure = Unit {0}
