-- What a step on a file's name asks of the system and answers. There is a line for each answer.
use Rattle.std.specs.Prelude.{◌≡◌, ℕ, List, [], ◌∷◌, nat_eq, if◌then◌else◌, Bool, true, false, Some, None, Result, Ok, Err}
use Rattle.std.specs.Cmp.Lexicographic.{pointwise}
use Rattle.store_api.specs.declared.step.Answer.{Answer}
use Rattle.store_api.specs.declared.step.Answer.TheVariants.{Made, Old, Absent, NoFolder}
use Rattle.folder_calls.specs.declared.failure.Failure.{Failure}
use Rattle.folder_calls.specs.declared.failure.Failure.TheVariants.{Failed, NoMemory}
use Rattle.store_folder.specs.declared.files.Found.{Found}
use Rattle.store_folder.specs.declared.files.Found.TheVariants.{There, Not}
use Rattle.folder_calls.specs.declared.reason.Kind.{Kind}
use Rattle.folder_calls.specs.declared.reason.Kind.TheVariants.{Absent as Nothing, File, Folder, Other}
use Rattle.folder_calls.specs.Calls.{Call, Log, Makes, looked_at, opened_file, measured_file, created_file, synced_folder, removed_file, renamed_item}
use Rattle.folder_calls.specs.OpenFiles.{met_of}
use Rattle.store_folder.specs.Folders.{FindsNoFolder, FailsToEnter}
use Rattle.store_folder.specs.Paths.{item_of}

-- a look that found no plain file, or failed
abbrev pub IsNoFile : Result Kind Failure → Type 0
IsNoFile (Ok Nothing) = Unit {0}
IsNoFile (Ok (File len)) = ⊥
IsNoFile (Ok Folder) = Unit {0}
IsNoFile (Ok Other) = Unit {0}
IsNoFile (Err failure) = Unit {0}

-- the calls that give a file another name, none where it has the name
abbrev pub renaming : {F : Type 0} → List ℕ → List ℕ → List ℕ → List (Call F)
renaming folder from to =
    if pointwise nat_eq from to then [] else renamed_item (item_of folder from) (item_of folder to) (Ok tt) ∷ synced_folder folder (Ok tt) ∷ []

module _ {F : Type 0} (log later : Log F) where
  -- a file was made in a folder that is there, and its name was synced, or a plain file has the name
  abbrev pub CreatesFile : List ℕ → List ℕ → List ℕ → Answer → Type 0
  CreatesFile room folder file Made =
      (made : F) × Makes (looked_at room (Ok Folder) ∷ looked_at folder (Ok Folder) ∷ created_file (item_of folder file) (Ok (Some made)) ∷ synced_folder folder (Ok tt) ∷ []) log later
  CreatesFile room folder file (Old number) =
      (number ≡ 0) × ((len : ℕ) × Makes (looked_at room (Ok Folder) ∷ looked_at folder (Ok Folder) ∷ created_file (item_of folder file) (Ok None) ∷ looked_at (item_of folder file) (Ok (File len)) ∷ []) log later)
  CreatesFile room folder file NoFolder = FindsNoFolder log later room folder
  CreatesFile room folder file other = ⊥

  -- a file was removed from a folder that is there, and its name's end was synced
  abbrev pub RemovesFile : List ℕ → List ℕ → List ℕ → Answer → Type 0
  RemovesFile room folder file Made = Makes (looked_at room (Ok Folder) ∷ looked_at folder (Ok Folder) ∷ removed_file (item_of folder file) (Ok true) ∷ synced_folder folder (Ok tt) ∷ []) log later
  RemovesFile room folder file Absent = Makes (looked_at room (Ok Folder) ∷ looked_at folder (Ok Folder) ∷ removed_file (item_of folder file) (Ok false) ∷ []) log later
  RemovesFile room folder file NoFolder = FindsNoFolder log later room folder
  RemovesFile room folder file other = ⊥

  -- A file in a folder that is there was renamed, and the names were synced. Nothing was done where it has the name.
  abbrev pub ReplacesFile : List ℕ → List ℕ → List ℕ → List ℕ → Answer → Type 0
  ReplacesFile room folder from to Made =
      (len : ℕ) × Makes (looked_at room (Ok Folder) ∷ looked_at folder (Ok Folder) ∷ looked_at (item_of folder from) (Ok (File len)) ∷ renaming folder from to) log later
  ReplacesFile room folder from to Absent = Makes (looked_at room (Ok Folder) ∷ looked_at folder (Ok Folder) ∷ looked_at (item_of folder from) (Ok Nothing) ∷ []) log later
  ReplacesFile room folder from to NoFolder = FindsNoFolder log later room folder
  ReplacesFile room folder from to other = ⊥

  -- why there is no file to open: its folder isn't there, or nothing has its name
  abbrev pub FindsNoFile : List ℕ → List ℕ → List ℕ → Answer → Type 0
  FindsNoFile room folder file Absent = Makes (looked_at room (Ok Folder) ∷ looked_at folder (Ok Folder) ∷ opened_file (item_of folder file) (Ok None) ∷ []) log later
  FindsNoFile room folder file NoFolder = FindsNoFolder log later room folder
  FindsNoFile room folder file other = ⊥

  -- How far the opening of a file came that ended with this failure: with that of these calls which failed, or before
  -- the first. If the file's names can stand in a path that was want of memory.
  pub data FailsToOpen (named : Type 0) (room folder file : List ℕ) (failure : Failure) : Type 0 where
    uncalled : (named → failure ≡ NoMemory) → later ≡ log → FailsToOpen named room folder file failure
    entering : failure ≡ Failed → FailsToEnter log later room folder → FailsToOpen named room folder file failure
    opening : Makes (looked_at room (Ok Folder) ∷ looked_at folder (Ok Folder) ∷ opened_file (item_of folder file) (Err failure) ∷ []) log later → FailsToOpen named room folder file failure
    measuring : (made : F) → Makes (looked_at room (Ok Folder) ∷ looked_at folder (Ok Folder) ∷ opened_file (item_of folder file) (Ok (Some made)) ∷ measured_file made (Err failure) ∷ []) log later → FailsToOpen named room folder file failure

  -- A file was opened by its path in a folder that is there, and measured, or it isn't there. All its bytes are of
  -- earlier runs, but where it is this run's own.
  abbrev pub OpensFile : Bool → List ℕ → List ℕ → List ℕ → Found F → Type 0
  OpensFile is_own room folder file (There held) =
      (held.met ≡ met_of is_own held.len) × Makes (looked_at room (Ok Folder) ∷ looked_at folder (Ok Folder) ∷ opened_file (item_of folder file) (Ok (Some held.file)) ∷ measured_file held.file (Ok held.len) ∷ []) log later
  OpensFile is_own room folder file (Not answer) = FindsNoFile room folder file answer
