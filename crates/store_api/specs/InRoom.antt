-- What a step does to the room that it names.
use Rattle.store_api.specs.declared.tree.Room.{Room}
use Rattle.store_api.specs.declared.step.Answer.TheVariants.{NoRoom}
use Rattle.store_api.specs.Step.{Step, make_folder, remove_folder, list_folder, create, remove, replace, length_of, read_at, write_at, cut, sync}
use Rattle.store_api.specs.Room as room

-- a step that is made within no room has no outcome there
abbrev pub room_outcome : Step → Room → room.Outcome
room_outcome (make_folder n folder) r = room.folder_made r folder
room_outcome (remove_folder n folder) r = room.folder_removed r folder
room_outcome (list_folder n folder) r = room.folder_listed r folder
room_outcome (create n folder file) r = room.file_created r folder file
room_outcome (remove n folder file) r = room.file_removed r folder file
room_outcome (replace n folder from to) r = room.file_renamed r folder from to
room_outcome (length_of n folder file) r = room.length_told r folder file
room_outcome (read_at n folder file at len) r = room.bytes_read r folder file at len
room_outcome (write_at n folder file at bytes) r = room.bytes_written r folder file at bytes
room_outcome (cut n folder file len) r = room.file_cut r folder file len
room_outcome (sync n folder file) r = room.file_synced r folder file
room_outcome step r = room.stays r NoRoom
