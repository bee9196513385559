-- What a step leaves of the rooms' numbers, and which files it leaves open, however it ended.
use Rattle.std.specs.Map.{remove_entry}
use Rattle.std.specs.Prelude.{◌≡◌, ◌⊎◌, ◌++◌, ℕ, List, [], ◌∷◌, true, false, slice_set, string_bytes, Some, Result, Ok, Err, OnErr, IfOk, IfErr, IfSome}
use Rattle.store_api.specs.declared.step.Answer.{Answer}
use Rattle.store_api.specs.declared.step.Answer.TheVariants.{Made}
use Rattle.store_api.specs.Step.{Step, make_room, rename_room, create, remove, replace, length_of, read_at, write_at, cut, sync}
use Rattle.folder_calls.specs.declared.cache.FileKey.{FileKey}
use Rattle.folder_calls.specs.declared.failure.Failure.{Failure}
use Rattle.folder_calls.specs.declared.failure.Failure.TheVariants.{Failed}
use Rattle.folder_calls.specs.declared.held.Held.{Held}
use Rattle.folder_calls.specs.declared.reason.Kind.TheVariants.{Folder}
use Rattle.folder_calls.specs.Calls.{Log, Makes, looked_at, created_file, synced_folder}
use Rattle.folder_calls.specs.Keys.{same_file}
use Rattle.folder_calls.specs.OpenFiles.{ActsOpen, held_after}
use Rattle.folder_calls.specs.Opened.{held_at}
use Rattle.folder_calls.specs.Own.{is_own}
use Rattle.store_folder.specs.declared.disk.Disk.{Disk}
use Rattle.store_folder.specs.declared.files.Found.TheVariants.{There}
use Rattle.store_folder.specs.FailedListing.{FailsToListRooms}
use Rattle.store_folder.specs.Failing.{Fails}
use Rattle.store_folder.specs.NewRooms.{MakesRoom}
use Rattle.store_folder.specs.Paths.{item_of, room_path, folder_path}
use Rattle.store_folder.specs.Places.{FindsFile, file_of, ActsOnFile, BecomesOwn, takes_name}
use Rattle.store_folder.specs.Rooms.{MovesRoom, IsStill}
use Rattle.store_folder.specs.Steps.{Numbers, Performs}

module _ {C F : Type 0} (old new : Disk C F) (log later : Log F) where
  -- The rooms after a step that failed are those before it. But a room that was made has its number, and one that was
  -- renamed its new name, where only the sync of ROOT failed.
  abbrev pub LeavesRooms : Step → Type 0
  LeavesRooms (make_room name folders files) =
      (new.rooms.items ≡ old.rooms.items) ⊎ ((new.rooms.items ≡ old.rooms.items ++ name ∷ []) × MakesRoom (string_bytes old.root) (item_of (string_bytes old.root) name) folders files (Err Failed) log later)
  LeavesRooms (rename_room room to) =
      (new.rooms.items ≡ old.rooms.items) ⊎ ((new.rooms.items ≡ slice_set old.rooms.items room to) × MovesRoom (string_bytes old.root) (room_path old room) to (Err Failed) log later)
  LeavesRooms other = new.rooms.items ≡ old.rooms.items

-- the file of another key, which was open before
abbrev pub StaysOpen : {C F : Type 0} → Disk C F → FileKey → FileKey → Held F → Type 0
StaysOpen old its key held = (same_file its key ≡ false) × (held_at old.open key ≡ Some held)

-- a file that was made in a folder that is there, with no bytes, and whose name was synced
abbrev pub OpensMade : {F : Type 0} → Log F → Log F → List ℕ → List ℕ → List ℕ → Result Answer Failure → Held F → Type 0
OpensMade log later room folder file end held =
    (end ≡ Ok Made) × (held.len ≡ 0) × (held.met ≡ 0) × Makes (looked_at room (Ok Folder) ∷ looked_at folder (Ok Folder) ∷ created_file (item_of folder file) (Ok (Some held.file)) ∷ synced_folder folder (Ok tt) ∷ []) log later

module _ {C F : Type 0} (old : Disk C F) (log later : Log F) where
  -- the file of this key as an answered step left it, with the length that it has then, from how it was found
  abbrev pub OpensActed : FileKey → Step → Result Answer Failure → Held F → Type 0
  OpensActed its step (Err failure) held = ⊥
  OpensActed its step (Ok answer) held =
      let room = room_path old its.room in
      (found : Held F) × (between : Log F) × FindsFile (held_at old.open its) (is_own old.own its) log between room (folder_path room its.folder) its.file (There found) × ActsOpen found between later step (Ok answer) × (held ≡ held_after found step answer)

  -- a step on a file leaves that open, and others that were
  abbrev pub LeavesActed : FileKey → Step → Result Answer Failure → FileKey → Held F → Type 0
  LeavesActed its step end key held = StaysOpen old its key held ⊎ ((same_file its key ≡ true) × OpensActed its step end held)

  -- How a file that is open after a step came to be so. One line for each step: what it takes a name from, or gives one,
  -- is closed, and so is the file of a step that failed.
  abbrev pub LeavesOpen : Step → Result Answer Failure → FileKey → Held F → Type 0
  LeavesOpen (create room folder file) end key held =
      StaysOpen old (record { room = room; folder = folder; file = file }) key held
      ⊎ ((same_file (record { room = room; folder = folder; file = file }) key ≡ true) × OpensMade log later (room_path old room) (folder_path (room_path old room) folder) file end held)
  LeavesOpen (remove room folder file) end key held = StaysOpen old (record { room = room; folder = folder; file = file }) key held
  LeavesOpen (replace room folder from to) end key held =
      StaysOpen old (record { room = room; folder = folder; file = from }) key held × StaysOpen old (record { room = room; folder = folder; file = to }) key held
  LeavesOpen (length_of room folder file) end key held = LeavesActed (record { room = room; folder = folder; file = file }) (length_of room folder file) end key held
  LeavesOpen (read_at room folder file at len) end key held = LeavesActed (record { room = room; folder = folder; file = file }) (read_at room folder file at len) end key held
  LeavesOpen (write_at room folder file at bytes) end key held = LeavesActed (record { room = room; folder = folder; file = file }) (write_at room folder file at bytes) end key held
  LeavesOpen (cut room folder file len) end key held = LeavesActed (record { room = room; folder = folder; file = file }) (cut room folder file len) end key held
  LeavesOpen (sync room folder file) end key held = LeavesActed (record { room = room; folder = folder; file = file }) (sync room folder file) end key held
  LeavesOpen other end key held = held_at old.open key ≡ Some held

module _ {C F : Type 0} (old new : Disk C F) where
  -- all files that were open are so as before, but that of this key
  abbrev pub ClosesOne : FileKey → Type 0
  ClosesOne key = new.open.files.entries ≡ remove_entry (same_file key) old.open.files.entries

  -- Which files a step closes, with a line for each: those that it takes a name from or gives one, and that of a step that
  -- failed. A file that is kept open after its step may take the place of the one that was not used for longest.
  abbrev pub Closes : Step → Result Answer Failure → Type 0
  Closes (create room folder file) end = OnErr end (ClosesOne (record { room = room; folder = folder; file = file }))
  Closes (remove room folder file) end = ClosesOne (record { room = room; folder = folder; file = file })
  Closes (replace room folder from to) end =
      new.open.files.entries ≡ remove_entry (same_file (record { room = room; folder = folder; file = to })) (remove_entry (same_file (record { room = room; folder = folder; file = from })) old.open.files.entries)
  Closes (length_of room folder file) end = OnErr end (ClosesOne (record { room = room; folder = folder; file = file }))
  Closes (read_at room folder file at len) end = OnErr end (ClosesOne (record { room = room; folder = folder; file = file }))
  Closes (write_at room folder file at bytes) end = OnErr end (ClosesOne (record { room = room; folder = folder; file = file }))
  Closes (cut room folder file len) end = OnErr end (ClosesOne (record { room = room; folder = folder; file = file }))
  Closes (sync room folder file) end = OnErr end (ClosesOne (record { room = room; folder = folder; file = file }))
  Closes other end = new.open ≡ old.open

-- How a step among numbered rooms ended, and what it leaves. One that was answered made its calls. One that failed did so
-- for one of its calls, for a name or for want of memory. One on a file ended as its calls did. A file becomes this run's
-- own only in a step on it that found it with no bytes. It stays so but where its name is taken from it, or given to
-- another, and then it is no more.
pub record EndsAmongRooms {C F : Type 0} (log : C → Log F) (old new : Disk C F) (step : Step) (end : Result Answer Failure) : Type 0 where
  pub root : new.root ≡ old.root
  pub numbered : new.is_numbered ≡ old.is_numbered
  pub performs : IfOk end (Performs old new (log old.calls) (log new.calls) step)
  pub fails : IfErr end (Fails old (log old.calls) (log new.calls) step)
  pub rooms : OnErr end (LeavesRooms old new (log old.calls) (log new.calls) step)
  pub on_file : IfSome (file_of step) (λ key. ActsOnFile old key (log old.calls) (log new.calls) step end)
  pub opened : (key : FileKey) (held : Held F) → held_at new.open key ≡ Some held → LeavesOpen old (log old.calls) (log new.calls) step end key held
  pub closes : Closes old new step end
  pub own : (key : FileKey) → is_own new.own key ≡ true → (is_own old.own key ≡ true) ⊎ BecomesOwn old (file_of step) key (log old.calls)
  pub renames : (key : FileKey) → takes_name step key ≡ true → is_own new.own key ≡ false
  pub keeps_own : (key : FileKey) → is_own old.own key ≡ true → takes_name step key ≡ false → is_own new.own key ≡ true

-- A step was tried: the rooms have no numbers and could not be listed, by these calls, and nothing changed, or it went on
-- among numbered rooms.
pub data Attempts {C F : Type 0} (log : C → Log F) (old new : Disk C F) (step : Step) (end : Result Answer Failure) : Type 0 where
  unlisted : (failure : Failure) → end ≡ Err failure → old.is_numbered ≡ false → IsStill old new → FailsToListRooms (string_bytes old.root) (log old.calls) (log new.calls) failure → Attempts log old new step end
  among : (rooms : Disk C F) → Numbers old rooms (log old.calls) (log rooms.calls) → EndsAmongRooms log rooms new step end → Attempts log old new step end
