-- How far the listing of ROOT came that numbers the rooms, where it failed.
use Rattle.std.specs.Prelude.{◌≡◌, ℕ, List, [], ◌∷◌, take, slice_get, Some, Ok, Err}
use Rattle.folder_calls.specs.declared.failure.Failure.{Failure}
use Rattle.folder_calls.specs.declared.failure.Failure.TheVariants.{Failed, NoMemory}
use Rattle.folder_calls.specs.Calls.{Log, Makes, looked_at, listed_folder}
use Rattle.folder_calls.specs.Parts.{IsRoomName}
use Rattle.store_folder.specs.Paths.{IsNameable, item_of}
use Rattle.store_folder.specs.Rooms.{FindsRooms}

module _ {F : Type 0} where
  -- An item with a room's name was not looked at, for want of memory or since that name can't stand in a path, or the
  -- look at it failed. No other item is looked at.
  pub data FailsToLookForRoom (root name : List ℕ) (log later : Log F) (failure : Failure) : Type 0 where
    uncalled : IsRoomName name → (IsNameable name → failure ≡ NoMemory) → later ≡ log → FailsToLookForRoom root name log later failure
    not_looked : (told : Failure) → IsRoomName name → failure ≡ Failed → Makes (looked_at (item_of root name) (Err told) ∷ []) log later → FailsToLookForRoom root name log later failure

  -- Each of the first names was looked for. Then memory lacked for the rooms among them, or the next could not be.
  pub data FailsToFindRooms (root : List ℕ) (names : List (List ℕ)) (log later : Log F) (failure : Failure) : Type 0 where
    starved : (done : ℕ) (rooms : List (List ℕ)) → failure ≡ NoMemory → FindsRooms root (take done names) rooms log later → FailsToFindRooms root names log later failure
    not_looked_for : (done : ℕ) (name : List ℕ) (rooms : List (List ℕ)) (between : Log F) → slice_get names done ≡ Some name → FindsRooms root (take done names) rooms log between → FailsToLookForRoom root name between later failure → FailsToFindRooms root names log later failure

  -- ROOT was not listed, or it was, and the rooms were not found among its names
  pub data FailsToListRooms (root : List ℕ) (log later : Log F) (failure : Failure) : Type 0 where
    not_listed : Makes (listed_folder root (Err failure) ∷ []) log later → FailsToListRooms root log later failure
    not_found : (names : List (List ℕ)) (told : Log F) → Makes (listed_folder root (Ok names) ∷ []) log told → FailsToFindRooms root names told later failure → FailsToListRooms root log later failure
