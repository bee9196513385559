-- What has landed in a room of a plain machine, and the greatest stamp there.
use Rattle.std.specs.Prelude.{ℕ, ◌==◌, max, if◌then◌else◌, List, [], ◌∷◌, ◌++◌, map, take}
use Rattle.plfs_types.specs.declared.entries.ShareBytes.{ShareBytes}
use Rattle.plfs_types.specs.declared.entries.Trunc.{Trunc}
use Rattle.plfs_types.specs.declared.entries.WriterCount.{WriterCount}
use Rattle.plain_file.specs.declared.changes.Change.{Change}
use Rattle.plain_file.specs.declared.changes.Change.TheVariants.{Truncate}
use Rattle.plain_file.specs.File.{plain}
use Rattle.mount_sound.specs.Entries.{last_stamp, logged}
use Rattle.mount_sound.specs.Ledger.{Written, entries_in}
use Rattle.plain_machine.specs.Machine.{PlainReader, PlainRoom, PlainWriter}
use Rattle.mount_sound.specs.Ledger.{change_of}

abbrev pub landed_of : PlainWriter → List Written
landed_of w = take w.landed w.issued

-- of all writers, one after the other
abbrev pub landed_writes : List PlainWriter → List Written
landed_writes [] = []
landed_writes (w ∷ writers) = landed_of w ++ landed_writes writers

-- what writes and truncates change in a file
abbrev pub changes : List Written → List Trunc → List Change
changes writes truncs = map change_of writes ++ map Truncate truncs

-- how many writes of each writer have landed; those of whom none has are left out
abbrev pub counts : List PlainWriter → List WriterCount
counts [] = []
counts (w ∷ writers) = if w.landed == 0 then counts writers else record { writer = w.id; count = w.landed } ∷ counts writers

-- how many bytes these have, of each writer
abbrev pub shares : List PlainWriter → List ShareBytes
shares [] = []
shares (w ∷ writers) = if w.landed == 0 then shares writers else record { writer = w.id; bytes = logged (entries_in (landed_of w)) } ∷ shares writers

-- ---- what a reader sees

-- the file of a reader that opens this room now
abbrev pub file_of : ℕ → PlainRoom → PlainReader
file_of number room = record { room = number; writes = landed_writes room.writers; truncs = room.truncs }

abbrev pub bytes_seen : PlainReader → List ℕ
bytes_seen file = plain (changes file.writes file.truncs)

-- ---- stamps

-- the stamp of the last of a writer's writes, which is its greatest, or 0
abbrev pub last_of : List Written → ℕ
last_of writes = last_stamp 0 (entries_in writes)

abbrev pub last_landed : List PlainWriter → ℕ
last_landed [] = 0
last_landed (w ∷ writers) = max (last_of (landed_of w)) (last_landed writers)

abbrev pub last_trunc_of : List Trunc → ℕ
last_trunc_of [] = 0
last_trunc_of (t ∷ truncs) = max t.stamp (last_trunc_of truncs)

-- the greatest stamp in the room, or 0
abbrev pub top_of : PlainRoom → ℕ
top_of room = max (last_trunc_of room.truncs) (last_landed room.writers)
