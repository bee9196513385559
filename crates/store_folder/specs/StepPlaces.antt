-- Where a step is made, below ROOT.
use Rattle.std.specs.Prelude.{ℕ, List, [], slice_get, unwrap_or, if◌then◌else◌}
use Rattle.store_api.specs.Step.{Step, rooms, find_room, make_room, rename_room, make_folder, remove_folder, list_folder, create, remove, replace, length_of, read_at, write_at, cut, sync}
use Rattle.store_folder.specs.declared.disk.Disk.{Disk}
use Rattle.folder_calls.specs.declared.reason.Place.{Place}

-- the place of this room, folder and file, each empty where there is none
abbrev pub place : List ℕ → List ℕ → List ℕ → Place
place room folder file = record { room = room; folder = folder; file = file }

module _ {C F : Type 0} (disk : Disk C F) where
  -- the name of a room, which is empty where it has none
  abbrev pub room_name : ℕ → List ℕ
  room_name room = unwrap_or (slice_get disk.rooms.items room) []

  -- one line for each step
  abbrev pub place_among_rooms : Step → Place
  place_among_rooms rooms = place [] [] []
  place_among_rooms (find_room name) = place name [] []
  place_among_rooms (make_room name folders files) = place name [] []
  place_among_rooms (rename_room room to) = place (room_name room) [] []
  place_among_rooms (make_folder room folder) = place (room_name room) folder []
  place_among_rooms (remove_folder room folder) = place (room_name room) folder []
  place_among_rooms (list_folder room folder) = place (room_name room) folder []
  place_among_rooms (create room folder file) = place (room_name room) folder file
  place_among_rooms (remove room folder file) = place (room_name room) folder file
  place_among_rooms (replace room folder from to) = place (room_name room) folder from
  place_among_rooms (length_of room folder file) = place (room_name room) folder file
  place_among_rooms (read_at room folder file at len) = place (room_name room) folder file
  place_among_rooms (write_at room folder file at bytes) = place (room_name room) folder file
  place_among_rooms (cut room folder file len) = place (room_name room) folder file
  place_among_rooms (sync room folder file) = place (room_name room) folder file

  -- before the rooms are numbered that is ROOT itself
  abbrev pub place_of : Step → Place
  place_of step = if disk.is_numbered then place_among_rooms step else place [] [] []
