-- The statements on a file by its name, and the one that lists all files.
use Rattle.std.specs.Prelude.{◌≡◌, ℕ, ◌==◌, ◌&&◌, nat_le, nat_lt, not, true, false, List, [], ◌∷◌, ◌++◌, length, map, filter, Option, MatchOption}
use Rattle.std.specs.List.{Any}
use Rattle.plfs_types.specs.declared.entries.WriterCount.{WriterCount}
use Rattle.plfs_types.specs.declared.limits.TheConstants.{MAX_SIZE, MAX_STAMP}
use Rattle.plfs_types.specs.Names.{is_logical}
use Rattle.plfs_types.specs.Stamps.{next_stamp}
use Rattle.edge_io.specs.Clock.{Ticks}
use Rattle.store_api.specs.Names.{in_byte_order}
use Rattle.plain_file.specs.declared.pieces.Piece.{Piece}
use Rattle.plain_file.specs.File.{plain_size, stored_bytes}
use Rattle.plain_file.specs.Runs.{ArePieces}
use Rattle.mount_model.specs.Paths.{Name, open_path}
use Rattle.mount_sound.specs.Ledger.{entries_in}
use Rattle.script_lang.specs.declared.line.Outcome.{Outcome}
use Rattle.script_lang.specs.declared.line.Outcome.TheVariants.{Flattened, Listed, Recovered, Renamed, Stat, Truncated}
use Rattle.script_lang.specs.declared.line.Why.TheVariants.{Busy, Exists, Held, IdsSpent, StampsSpent, TooFar}
use Rattle.plain_machine.specs.Machine.{Plain, PlainRoom, PlainWriter}
use Rattle.plain_machine.specs.Finding.{find, open_writers}
use Rattle.plain_machine.specs.Landed.{changes, counts, landed_writes, shares, top_of}
use Rattle.plain_machine.specs.Becoming.{drawn, is_spent, next_of, with_room}
use Rattle.plain_machine.specs.Cases.{IsRefused, OnRoom, When}

-- ---- attributes

abbrev pub Tells : Plain → Name → Outcome → Plain → Type 0
Tells p name outcome new = OnRoom p name outcome new (λ number room.
    let all = changes (landed_writes room.writers) room.truncs in
    (outcome ≡ Stat (plain_size all) (stored_bytes all) (shares room.writers) room.truncs) × (new ≡ p))

-- ---- a room to oneself

-- the name of a writer among those that have its room open
abbrev pub open_name : PlainWriter → Name
open_name w = (open_path w.host w.id).file

-- the writer has the room open, and the least name of all that have
abbrev pub IsLeastOpen : PlainRoom → PlainWriter → Type 0
IsLeastOpen room w =
    Any (λ (x : PlainWriter). x ≡ w) (open_writers room)
    × ((later : List Name) × (in_byte_order (map open_name (open_writers room)) ≡ open_name w ∷ later))

-- The room is held for the statement, unless no id is left, it is held already, or a writer has it open. An id is spent on it.
abbrev pub Holds : Plain → PlainRoom → Outcome → Plain → (Plain → Type 0) → Type 0
Holds p room outcome new does =
    When (is_spent p) (IsRefused outcome IdsSpent p new)
    (When room.is_held (IsRefused outcome Held (drawn p) new)
    (When (length (open_writers room) == 0) (does (drawn p)) ((w : PlainWriter) × IsLeastOpen room w × IsRefused outcome (Busy w.host w.id) (drawn p) new)))

-- the room with one truncate more
abbrev pub cut_to : ℕ → ℕ → PlainRoom → PlainRoom
cut_to stamp size room = record room { truncs = room.truncs ++ record { stamp = stamp; size = size } ∷ [] }

-- the truncate's stamp is above all in the room
abbrev pub Truncates : Plain → Name → ℕ → Outcome → Plain → Type 0
Truncates p name size outcome new = OnRoom p name outcome new (λ number room. Holds p room outcome new (λ q.
    When (nat_lt MAX_SIZE size) (IsRefused outcome TooFar q new)
    (When (nat_le MAX_STAMP (top_of room)) (IsRefused outcome StampsSpent q new)
    ((time : ℕ) × (left : Option (List ℕ)) × Ticks q.times left time
    × (let stamp = next_stamp time (top_of room) (top_of room) in
    (outcome ≡ Truncated stamp) × (new ≡ with_room number (cut_to stamp size room) (record q { times = left })))))))

abbrev pub named : Name → PlainRoom → PlainRoom
named name room = record room { name = name }

-- the new name must be free
abbrev pub Renames : Plain → Name → Name → Outcome → Plain → Type 0
Renames p name to outcome new = OnRoom p name outcome new (λ number room. Holds p room outcome new (λ q.
    MatchOption (find q to) ((outcome ≡ Renamed) × (new ≡ with_room number (named to room) q)) (λ other. IsRefused outcome Exists q new)))

-- ---- indices, and what dead writers left

-- The index has the pieces of what has landed, truncates aside. No later line depends on it, but for the id that is spent.
abbrev pub Flattens : Plain → Name → Outcome → Plain → Type 0
Flattens p name outcome new = OnRoom p name outcome new (λ number room.
    When (is_spent p) (IsRefused outcome IdsSpent p new)
    ((pieces : List Piece) × ArePieces (entries_in (landed_writes room.writers)) [] pieces × (outcome ≡ Flattened (next_of p) (length pieces) (counts room.writers)) × (new ≡ drawn p)))

-- the writers that have the room open, and that an actor has, or none
abbrev pub owned : PlainRoom → List PlainWriter
owned room = filter (λ (w : PlainWriter). w.is_owned) (open_writers room)

abbrev pub dead : PlainRoom → List PlainWriter
dead room = filter (λ (w : PlainWriter). not w.is_owned) (open_writers room)

-- counts of 0 are told here
abbrev pub count_told : PlainWriter → WriterCount
count_told w = record { writer = w.id; count = w.landed }

abbrev pub without_dead : PlainRoom → PlainRoom
without_dead room = record room { writers = map (λ (w : PlainWriter). record w { is_open = w.is_open && w.is_owned }) room.writers }

abbrev pub let_go : PlainRoom → PlainRoom
let_go room = record room { is_held = false }

-- a held room is let go; of another one the dead writers are taken off
abbrev pub Recovers : Plain → Name → Outcome → Plain → Type 0
Recovers p name outcome new = OnRoom p name outcome new (λ number room.
    When room.is_held ((outcome ≡ Recovered [] [] true) × (new ≡ with_room number (let_go room) p))
    ((outcome ≡ Recovered (map count_told (dead room)) (map (λ (w : PlainWriter). w.id) (owned room)) false) × (new ≡ with_room number (without_dead room) p)))

-- ---- all files

abbrev pub Lists : Plain → Outcome → Plain → Type 0
Lists p outcome new = (outcome ≡ Listed (filter is_logical (in_byte_order (map (λ (room : PlainRoom). room.name) p.rooms)))) × (new ≡ p)
