-- The statements on an actor's writer.
use Rattle.std.specs.Prelude.{◌≡◌, ◌+◌, ℕ, ◌==◌, ◌||◌, nat_le, nat_lt, true, false, List, [], ◌∷◌, ◌++◌, length, Option, Some, None, MatchOption}
use Rattle.plfs_types.specs.declared.limits.TheConstants.{MAX_LOG, MAX_SIZE, MAX_STAMP}
use Rattle.plfs_types.specs.Stamps.{next_stamp}
use Rattle.edge_io.specs.Clock.{Ticks}
use Rattle.mount_model.specs.Paths.{Name}
use Rattle.mount_sound.specs.Entries.{logged}
use Rattle.mount_sound.specs.Ledger.{Written, entries_in}
use Rattle.script_lang.specs.declared.line.Outcome.{Outcome}
use Rattle.script_lang.specs.declared.line.Outcome.TheVariants.{Closed, Opened, Synced, Wrote}
use Rattle.script_lang.specs.declared.line.Why.TheVariants.{AlreadyOpen, Held, IdsSpent, StampsSpent, TooFar}
use Rattle.script_lang.specs.declared.script.ActorDecl.{ActorDecl}
use Rattle.plain_machine.specs.Machine.{Plain, PlainActor, PlainOwn, PlainRoom, PlainWriter}
use Rattle.plain_machine.specs.Finding.{find}
use Rattle.plain_machine.specs.Landed.{last_of, last_trunc_of}
use Rattle.plain_machine.specs.Becoming.{all_landed, drawn, is_spent, made, made_room, next_of, room_with, with_actor, with_room}
use Rattle.plain_machine.specs.Cases.{InRoom, IsRefused, OnOwn, When}

-- ---- it is opened

-- a writer of this actor that opens the room now
abbrev pub entering : Plain → ActorDecl → PlainRoom → PlainWriter
entering p declared room = record {
  id = next_of p;
  host = declared.host;
  capacity = declared.cap;
  floor = last_trunc_of room.truncs;
  is_open = true;
  is_owned = true;
  issued = [];
  landed = 0;
}

-- the room with one writer more
abbrev pub entered : PlainWriter → PlainRoom → PlainRoom
entered w room = record room { writers = room.writers ++ w ∷ [] }

-- It opens the room, unless no id is left, or the room is held. Of a held room an id is spent.
abbrev pub Enters : ℕ → ActorDecl → PlainActor → Plain → ℕ → PlainRoom → Outcome → Plain → Type 0
Enters place declared actor p number room outcome new =
    When (is_spent p) (IsRefused outcome IdsSpent p new)
    (When room.is_held (IsRefused outcome Held (drawn p) new)
    ((outcome ≡ Opened (next_of p))
    × (new ≡ with_actor place (record actor { writer = Some (record { room = number; id = next_of p }) }) (with_room number (entered (entering p declared room) room) (drawn p)))))

-- the room is made first, where there is none of the name
abbrev pub Opens : ℕ → ActorDecl → PlainActor → Plain → Name → Outcome → Plain → Type 0
Opens place declared actor p name outcome new =
    MatchOption actor.writer
    (let m = made p name (find p name) in InRoom m.0 m.1 (λ room. Enters place declared actor m.0 m.1 room outcome new))
    (λ own. IsRefused outcome AlreadyOpen p new)

-- ---- it writes

-- the write of these bytes at this place, with this stamp
abbrev pub issue : PlainWriter → ℕ → List ℕ → ℕ → Written
issue w at bytes stamp = record {
  entry = record { at = at; len = length bytes; physical = logged (entries_in w.issued); stamp = stamp; writer = w.id };
  bytes = bytes;
}

-- the writer issued one write more
abbrev pub one_more : Written → PlainWriter → PlainWriter
one_more write w = record w { issued = w.issued ++ write ∷ [] }

-- Its buffer has room by now. The write is refused where it ends too far, in the file or in the log, or no stamp is left.
abbrev pub WritesNow : Plain → PlainOwn → PlainRoom → PlainWriter → ℕ → List ℕ → Outcome → Plain → Type 0
WritesNow p own room w at bytes outcome new =
    When (nat_lt MAX_SIZE (at + length bytes) || nat_lt MAX_LOG (logged (entries_in w.issued) + length bytes)) (IsRefused outcome TooFar (with_room own.room (room_with w room) p) new)
    (When (nat_le MAX_STAMP (last_of w.issued) || nat_le MAX_STAMP w.floor) (IsRefused outcome StampsSpent (with_room own.room (room_with w room) p) new)
    ((time : ℕ) × (left : Option (List ℕ)) × Ticks p.times left time
    × (let stamp = next_stamp time (last_of w.issued) w.floor in
    (outcome ≡ Wrote at (length bytes) (Some stamp))
    × (new ≡ with_room own.room (room_with (one_more (issue w at bytes stamp) w) room) (record p { times = left })))))

-- no bytes are no write
abbrev pub Writes : PlainActor → Plain → ℕ → List ℕ → Outcome → Plain → Type 0
Writes actor p at bytes outcome new = OnOwn actor p outcome new (λ own room w.
    When (length bytes == 0) ((outcome ≡ Wrote at 0 None) × (new ≡ p)) (WritesNow p own room (made_room w) at bytes outcome new))

-- ---- it syncs, and leaves

abbrev pub Syncs : PlainActor → Plain → Outcome → Plain → Type 0
Syncs actor p outcome new = OnOwn actor p outcome new (λ own room w.
    (outcome ≡ Synced (length w.issued)) × (new ≡ with_room own.room (room_with (all_landed w) room) p))

-- nobody has the writer then, and it hasn't the room open
abbrev pub left : PlainWriter → PlainWriter
left w = record w { is_open = false; is_owned = false }

abbrev pub Closes : ℕ → PlainActor → Plain → Outcome → Plain → Type 0
Closes place actor p outcome new = OnOwn actor p outcome new (λ own room w.
    (outcome ≡ Closed (length w.issued))
    × (new ≡ with_actor place (record actor { writer = None }) (with_room own.room (room_with (left (all_landed w)) room) p)))
