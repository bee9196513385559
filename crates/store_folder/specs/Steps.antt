-- What each step asks of the system and answers.
use Rattle.std.specs.Prelude.{◌≡◌, true, false, position, string_bytes, None, Ok}
use Rattle.store_api.specs.declared.step.Answer.{Answer}
use Rattle.store_api.specs.Effect.{number_or_absent}
use Rattle.store_api.specs.Names.{same_name}
use Rattle.store_api.specs.Step.{Step, rooms, find_room, make_room, rename_room, make_folder, remove_folder, list_folder, create, remove, replace, length_of, read_at, write_at, cut, sync}
use Rattle.folder_calls.specs.declared.cache.FileKey.{FileKey}
use Rattle.store_folder.specs.declared.disk.Disk.{Disk}
use Rattle.folder_calls.specs.Calls.{Log}
use Rattle.store_folder.specs.Files.{CreatesFile, RemovesFile, ReplacesFile}
use Rattle.store_folder.specs.Folders.{MakesFolder, RemovesFolder, TellsFolder}
use Rattle.store_folder.specs.Listings.{TellsNames}
use Rattle.store_folder.specs.Paths.{folder_path}
use Rattle.folder_calls.specs.Opened.{held_at}
use Rattle.folder_calls.specs.Own.{is_own}
use Rattle.store_folder.specs.Places.{ActsAt, IsNamed}
use Rattle.store_folder.specs.Rooms.{ListsRooms, HasFiles, HasRooms, IsStill, InRoom, AddsRoom, RenamesRoom}

module _ {C F : Type 0} where
  -- the rooms have their numbers: ROOT was listed for that, unless it had been
  pub record Numbers (old new : Disk C F) (log later : Log F) : Type 0 where
    pub numbered : new.is_numbered ≡ true
    pub before : old.is_numbered ≡ true → new ≡ old
    pub first : old.is_numbered ≡ false → ListsRooms (string_bytes old.root) new.rooms.items log later
    pub root : new.root ≡ old.root
    pub kept_open : new.open ≡ old.open
    pub kept_own : new.own ≡ old.own

  module _ (old new : Disk C F) (log later : Log F) where
    -- a step on a file, by its key
    abbrev pub PerformsOnFile : FileKey → Step → Answer → Type 0
    PerformsOnFile key step answer =
        HasRooms old new × InRoom old key.room answer log later (λ path. ActsAt (held_at old.open key) (is_own old.own key) log later (IsNamed old key) path (folder_path path key.folder) key.file step (Ok answer))

    -- one line for each step
    abbrev pub Performs : Step → Answer → Type 0
    Performs rooms answer = (new ≡ old) × TellsNames old.rooms.items answer
    Performs (find_room name) answer = (new ≡ old) × (answer ≡ number_or_absent (position (λ room. same_name room name) old.rooms.items))
    Performs (make_room name folders files) answer = HasFiles old new × AddsRoom old new name log later folders files answer
    Performs (rename_room room to) answer = HasFiles old new × InRoom old room answer log later (RenamesRoom old new to log later room answer)
    Performs (make_folder room folder) answer = IsStill old new × InRoom old room answer log later (λ path. MakesFolder log later path (folder_path path folder) answer)
    Performs (remove_folder room folder) answer = IsStill old new × InRoom old room answer log later (λ path. RemovesFolder log later path folder answer)
    Performs (list_folder room folder) answer = IsStill old new × InRoom old room answer log later (λ path. TellsFolder log later path (folder_path path folder) answer)
    Performs (create room folder file) answer = HasRooms old new × InRoom old room answer log later (λ path. CreatesFile log later path (folder_path path folder) file answer)
    Performs (remove room folder file) answer = HasRooms old new × (held_at new.open (record { room = room; folder = folder; file = file }) ≡ None) × InRoom old room answer log later (λ path. RemovesFile log later path (folder_path path folder) file answer)
    Performs (replace room folder from to) answer = HasRooms old new × (held_at new.open (record { room = room; folder = folder; file = from }) ≡ None) × (held_at new.open (record { room = room; folder = folder; file = to }) ≡ None) × InRoom old room answer log later (λ path. ReplacesFile log later path (folder_path path folder) from to answer)
    Performs (length_of room folder file) answer = PerformsOnFile (record { room = room; folder = folder; file = file }) (length_of room folder file) answer
    Performs (read_at room folder file at len) answer = PerformsOnFile (record { room = room; folder = folder; file = file }) (read_at room folder file at len) answer
    Performs (write_at room folder file at bytes) answer = PerformsOnFile (record { room = room; folder = folder; file = file }) (write_at room folder file at bytes) answer
    Performs (cut room folder file len) answer = PerformsOnFile (record { room = room; folder = folder; file = file }) (cut room folder file len) answer
    Performs (sync room folder file) answer = PerformsOnFile (record { room = room; folder = folder; file = file }) (sync room folder file) answer
