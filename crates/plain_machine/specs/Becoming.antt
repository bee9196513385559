-- What becomes of a plain machine.
use Rattle.std.specs.Prelude.{ℕ, ◌+◌, ◌*◌, ◌-◌, ◌^◌, ◌==◌, nat_le, Bool, false, if◌then◌else◌, [], ◌∷◌, ◌++◌, length, map, set, Option, Some, None}
use Rattle.mount_model.specs.Paths.{Name}
use Rattle.plain_machine.specs.Machine.{Plain, PlainActor, PlainRoom, PlainWriter}

-- the writer of this id is so now
abbrev pub room_with : PlainWriter → PlainRoom → PlainRoom
room_with w room = record room { writers = map (λ (x : PlainWriter). if x.id == w.id then w else x) room.writers }

abbrev pub with_room : ℕ → PlainRoom → Plain → Plain
with_room number room p = record p { rooms = set p.rooms number room }

abbrev pub with_actor : ℕ → PlainActor → Plain → Plain
with_actor place actor p = record p { actors = set p.actors place actor }

-- the id of the next serial
abbrev pub next_of : Plain → ℕ
next_of p = p.mark * 2 ^ 32 + (p.serial + 1)

-- the next serial is drawn
abbrev pub drawn : Plain → Plain
drawn p = record p { serial = p.serial + 1 }

-- no serial is left
abbrev pub is_spent : Plain → Bool
is_spent p = nat_le (2 ^ 32 - 1) p.serial

-- all that the writer issued has landed
abbrev pub all_landed : PlainWriter → PlainWriter
all_landed w = record w { landed = length w.issued }

-- it has where its buffer was full
abbrev pub made_room : PlainWriter → PlainWriter
made_room w = if nat_le w.capacity (length w.issued - w.landed) then all_landed w else w

abbrev pub empty_room : Name → PlainRoom
empty_room name = record { name = name; is_held = false; truncs = []; writers = [] }

-- the machine with a room of this name, which is made where there is none, and the room's number
abbrev pub made : Plain → Name → Option ℕ → Plain × ℕ
made p name (Some number) = (p, number)
made p name None = (record p { rooms = p.rooms ++ empty_room name ∷ [] }, length p.rooms)
