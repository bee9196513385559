-- What a step on a folder asks of the system and answers. There is a line for each answer.
use Rattle.std.specs.Prelude.{◌≡◌, ℕ, List, [], ◌∷◌, Bool, true, false, Result, Ok, Err}
use Rattle.store_api.specs.declared.step.Answer.{Answer}
use Rattle.store_api.specs.declared.step.Answer.TheVariants.{Made, Old, NoFolder, NotEmpty, Names}
use Rattle.folder_calls.specs.declared.calls.Removal.TheVariants.{Removed, Absent, NotEmpty as Filled}
use Rattle.folder_calls.specs.declared.failure.Failure.{Failure}
use Rattle.folder_calls.specs.declared.reason.Kind.{Kind}
use Rattle.folder_calls.specs.declared.reason.Kind.TheVariants.{Absent as Nothing, File, Folder, Other}
use Rattle.folder_calls.specs.Calls.{Log, Makes, looked_at, listed_folder, made_folder, synced_folder, removed_folder}
use Rattle.store_folder.specs.Listings.{IsSortedListing, IsLeast}
use Rattle.store_folder.specs.Paths.{item_of}

-- no folder is there: nothing is, or a plain file
abbrev pub IsNoFolder : Kind → Type 0
IsNoFolder Nothing = Unit {0}
IsNoFolder (File len) = Unit {0}
IsNoFolder Folder = ⊥
IsNoFolder Other = ⊥

-- a look that found no folder, or failed
abbrev pub IsNoEntry : Result Kind Failure → Type 0
IsNoEntry (Ok Nothing) = Unit {0}
IsNoEntry (Ok (File len)) = Unit {0}
IsNoEntry (Ok Folder) = ⊥
IsNoEntry (Ok Other) = Unit {0}
IsNoEntry (Err failure) = Unit {0}

-- a look that failed, or found what is neither a folder nor a lack of one
abbrev pub IsInTheWay : Result Kind Failure → Type 0
IsInTheWay (Ok Nothing) = ⊥
IsInTheWay (Ok (File len)) = ⊥
IsInTheWay (Ok Folder) = ⊥
IsInTheWay (Ok Other) = Unit {0}
IsInTheWay (Err failure) = Unit {0}

module _ {F : Type 0} (log later : Log F) where
  -- the room and the folder were looked at, and each is a folder: no link stands there
  abbrev pub EntersFolder : List ℕ → List ℕ → Type 0
  EntersFolder room folder = Makes (looked_at room (Ok Folder) ∷ looked_at folder (Ok Folder) ∷ []) log later

  -- the room is there, and the folder isn't
  abbrev pub FindsNoFolder : List ℕ → List ℕ → Type 0
  FindsNoFolder room folder = (kind : Kind) × IsNoFolder kind × Makes (looked_at room (Ok Folder) ∷ looked_at folder (Ok kind) ∷ []) log later

  -- where the looks ended without a folder to go on with: at the room, or at what stands in the folder's place
  pub data FailsToEnter (room folder : List ℕ) : Type 0 where
    at_room : (end : Result Kind Failure) → IsNoEntry end → Makes (looked_at room end ∷ []) log later → FailsToEnter room folder
    at_folder : (end : Result Kind Failure) → IsInTheWay end → Makes (looked_at room (Ok Folder) ∷ looked_at folder end ∷ []) log later → FailsToEnter room folder

  -- a folder was made in a room that is there, and its name was synced, or it was there
  abbrev pub MakesFolder : List ℕ → List ℕ → Answer → Type 0
  MakesFolder room folder Made = Makes (looked_at room (Ok Folder) ∷ made_folder folder (Ok true) ∷ synced_folder room (Ok tt) ∷ []) log later
  MakesFolder room folder (Old number) =
      (number ≡ 0) × Makes (looked_at room (Ok Folder) ∷ made_folder folder (Ok false) ∷ looked_at folder (Ok Folder) ∷ []) log later
  MakesFolder room folder other = ⊥

  -- the top stays, and was listed: it is empty, or not
  abbrev pub RemovesTop : List ℕ → Answer → Type 0
  RemovesTop room Made = Makes (looked_at room (Ok Folder) ∷ listed_folder room (Ok []) ∷ []) log later
  RemovesTop room (NotEmpty least) = (names : List (List ℕ)) × Makes (looked_at room (Ok Folder) ∷ listed_folder room (Ok names) ∷ []) log later × IsLeast names least
  RemovesTop room other = ⊥

  -- an empty folder was removed from a room that is there, and its name's end was synced
  abbrev pub RemovesItem : List ℕ → List ℕ → Answer → Type 0
  RemovesItem room folder Made = Makes (looked_at room (Ok Folder) ∷ removed_folder folder (Ok Removed) ∷ synced_folder room (Ok tt) ∷ []) log later
  RemovesItem room folder (NotEmpty least) =
      (names : List (List ℕ)) × Makes (looked_at room (Ok Folder) ∷ removed_folder folder (Ok Filled) ∷ listed_folder folder (Ok names) ∷ []) log later × IsLeast names least
  RemovesItem room folder NoFolder = Makes (looked_at room (Ok Folder) ∷ removed_folder folder (Ok Absent) ∷ []) log later
  RemovesItem room folder other = ⊥

  -- the top, or another folder, by its path
  abbrev pub RemovesSpot : Bool → List ℕ → List ℕ → Answer → Type 0
  RemovesSpot true room folder answer = RemovesTop room answer
  RemovesSpot false room folder answer = RemovesItem room folder answer

  -- the folder of this name, which is the top where it is empty
  abbrev pub RemovesFolder : List ℕ → List ℕ → Answer → Type 0
  RemovesFolder room [] answer = RemovesTop room answer
  RemovesFolder room (byte ∷ rest) answer = RemovesItem room (item_of room (byte ∷ rest)) answer

  -- a folder that is there was listed, and its names are told in byte order
  abbrev pub TellsFolder : List ℕ → List ℕ → Answer → Type 0
  TellsFolder room folder (Names names) =
      (listing : List (List ℕ)) × Makes (looked_at room (Ok Folder) ∷ looked_at folder (Ok Folder) ∷ listed_folder folder (Ok listing) ∷ []) log later × IsSortedListing listing names
  TellsFolder room folder NoFolder = FindsNoFolder room folder
  TellsFolder room folder other = ⊥
