-- What a plain machine finds: rooms by their names, and writers by their ids.
use Rattle.std.specs.Prelude.{ℕ, ◌+◌, ◌==◌, if◌then◌else◌, List, [], ◌∷◌, filter, Option, Some, None, slice_get}
use Rattle.store_api.specs.Names.{same_name}
use Rattle.mount_model.specs.Paths.{Name}
use Rattle.plain_machine.specs.Machine.{Plain, PlainOwn, PlainRoom, PlainWriter}

abbrev pub find_from : ℕ → Name → List PlainRoom → Option ℕ
find_from number name [] = None
find_from number name (room ∷ rooms) = if same_name room.name name then Some number else find_from (number + 1) name rooms

-- the number of the room of this name
abbrev pub find : Plain → Name → Option ℕ
find p name = find_from 0 name p.rooms

abbrev pub writer_in : ℕ → List PlainWriter → Option PlainWriter
writer_in id [] = None
writer_in id (w ∷ writers) = if w.id == id then Some w else writer_in id writers

abbrev pub writer_of_room : ℕ → Option PlainRoom → Option PlainWriter
writer_of_room id None = None
writer_of_room id (Some room) = writer_in id room.writers

-- the writer that an actor has
abbrev pub owned_writer : Plain → PlainOwn → Option PlainWriter
owned_writer p own = writer_of_room own.id (slice_get p.rooms own.room)

-- the writers that have the room open
abbrev pub open_writers : PlainRoom → List PlainWriter
open_writers room = filter (λ (w : PlainWriter). w.is_open) room.writers
