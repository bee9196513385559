-- Which open file a step is made on.
use Rattle.std.specs.Prelude.{◌≡◌, ◌<◌, ◌||◌, ℕ, Bool, true, false, List, length, Option, Some, None, Result, Ok, Err}
use Rattle.store_api.specs.declared.step.Answer.{Answer}
use Rattle.store_api.specs.Step.{Step, remove, replace, length_of, read_at, write_at, cut, sync}
use Rattle.folder_calls.specs.declared.failure.Failure.{Failure}
use Rattle.folder_calls.specs.declared.cache.FileKey.{FileKey}
use Rattle.store_folder.specs.declared.disk.Disk.{Disk}
use Rattle.store_folder.specs.declared.files.Found.{Found}
use Rattle.store_folder.specs.declared.files.Found.TheVariants.{There}
use Rattle.folder_calls.specs.declared.held.Held.{Held}
use Rattle.folder_calls.specs.Keys.{same_file}
use Rattle.folder_calls.specs.Opened.{held_at}
use Rattle.folder_calls.specs.Own.{is_own}
use Rattle.folder_calls.specs.Calls.{Log}
use Rattle.store_folder.specs.Files.{FindsNoFile, FailsToOpen, OpensFile}
use Rattle.store_folder.specs.Paths.{IsNameable, IsNameableFolder, room_path, folder_path}
use Rattle.store_folder.specs.StepPlaces.{room_name}
use Rattle.folder_calls.specs.OpenFiles.{ActsOpen}

-- the file of a step that is made on an open one
abbrev pub file_of : Step → Option FileKey
file_of (length_of room folder file) = Some (record { room = room; folder = folder; file = file })
file_of (read_at room folder file at len) = Some (record { room = room; folder = folder; file = file })
file_of (write_at room folder file at bytes) = Some (record { room = room; folder = folder; file = file })
file_of (cut room folder file len) = Some (record { room = room; folder = folder; file = file })
file_of (sync room folder file) = Some (record { room = room; folder = folder; file = file })
file_of other = None

module _ {F : Type 0} where
  -- a file that is open is taken as it is, with no call, and another is opened by its path
  abbrev pub FindsFile : Option (Held F) → Bool → Log F → Log F → List ℕ → List ℕ → List ℕ → Found F → Type 0
  FindsFile (Some held) is_own log later room folder file found = (found ≡ There held) × (later ≡ log)
  FindsFile None is_own log later room folder file found = OpensFile log later is_own room folder file found

  -- A step on a file that isn't open: it is opened by its path, and the step's calls are made on it. Or it isn't
  -- there, or can't be opened, and no call is made on any file.
  pub data ActsClosed (is_own : Bool) (log later : Log F) (named : Type 0) (room folder file : List ℕ) (step : Step) (result : Result Answer Failure) : Type 0 where
    once_opened : (held : Held F) (between : Log F) → OpensFile log between is_own room folder file (There held) → ActsOpen held between later step result → ActsClosed is_own log later named room folder file step result
    not_there : (answer : Answer) → result ≡ Ok answer → FindsNoFile log later room folder file answer → ActsClosed is_own log later named room folder file step result
    unopened : (failure : Failure) → result ≡ Err failure → FailsToOpen log later named room folder file failure → ActsClosed is_own log later named room folder file step result

  -- a step on a file, which is open or not
  abbrev pub ActsAt : Option (Held F) → Bool → Log F → Log F → Type 0 → List ℕ → List ℕ → List ℕ → Step → Result Answer Failure → Type 0
  ActsAt (Some held) is_own log later named room folder file step result = ActsOpen held log later step result
  ActsAt None is_own log later named room folder file step result = ActsClosed is_own log later named room folder file step result

-- the names of this file, its folder and its room can stand in a path
unfoldable pub IsNamed : {C F : Type 0} → Disk C F → FileKey → Type 0
IsNamed disk key = IsNameable (room_name disk key.room) × IsNameableFolder key.folder × IsNameable key.file

-- a step on the file of this key, in a room that is there
abbrev pub ActsOnFile : {C F : Type 0} → Disk C F → FileKey → Log F → Log F → Step → Result Answer Failure → Type 0
ActsOnFile disk key log later step result =
    let room = room_path disk key.room in
    key.room < length disk.rooms.items → ActsAt (held_at disk.open key) (is_own disk.own key) log later (IsNamed disk key) room (folder_path room key.folder) key.file step result

module _ {C F : Type 0} (disk : Disk C F) where
  -- the file of this key was found, open or by its path, and has no bytes
  abbrev pub FindsEmpty : FileKey → Log F → Type 0
  FindsEmpty key log =
      let room = room_path disk key.room in
      (held : Held F) × (between : Log F) × FindsFile (held_at disk.open key) (is_own disk.own key) log between room (folder_path room key.folder) key.file (There held) × (held.len ≡ 0)

  -- a file became this run's own in a step on it that found it with no bytes
  abbrev pub BecomesOwn : Option FileKey → FileKey → Log F → Type 0
  BecomesOwn None other log = ⊥
  BecomesOwn (Some key) other log = (same_file key other ≡ true) × FindsEmpty key log

-- whether a step takes a name from a file, or gives it one
abbrev pub takes_name : Step → FileKey → Bool
takes_name (remove room folder file) key = same_file (record { room = room; folder = folder; file = file }) key
takes_name (replace room folder from to) key = same_file (record { room = room; folder = folder; file = from }) key || same_file (record { room = room; folder = folder; file = to }) key
takes_name other key = false
