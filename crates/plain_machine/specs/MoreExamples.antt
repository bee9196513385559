-- Worked examples of truncates, names, attributes and recovery.
use Rattle.std.specs.Prelude.{ℕ, false, true, List, [], ◌∷◌, map, Some, codes}
use Rattle.store_api.specs.Names.{marks_name}
use Rattle.script_lang.specs.declared.line.Outcome.TheVariants.{Closed, Listed, Opened, Read as WasRead, Reader, ReaderClosed, Recovered, Refused, Renamed, Stat as Told, Synced, Truncated, Wrote}
use Rattle.script_lang.specs.declared.line.Why.TheVariants.{Busy, Exists, Held, IdsSpent, NoFile, StampsSpent, TooFar}
use Rattle.script_lang.specs.declared.script.Data.TheVariants.{Text}
use Rattle.script_lang.specs.declared.script.Statement.TheVariants.{Close, Flatten, Ls, Open, Rclose, Read, Recover, Rename, Ropen, Stat, Sync, Trunc as Truncate, Write}
use Rattle.plain_machine.specs.Machine.{Plain, PlainRoom}
use Rattle.plain_machine.specs.Becoming.{empty_room}
use Rattle.plain_machine.specs.Running.{nobody}
use Rattle.plain_machine.specs.Saying.{Said, count, cut, f, g, h, one_actor, says, share, w1, w2, w4}

-- a truncate cuts a file or lengthens it by zeros, and later writes are above it
abbrev pub truncated : List Said
truncated =
    says 2 0 (Open f) (Opened w1)
    ∷ says 3 0 (Write 0 (Text (codes "ABCDEF"))) (Wrote 0 6 (Some 100))
    ∷ says 4 0 Close (Closed 1)
    ∷ says 5 0 (Truncate f 2) (Truncated 101)
    ∷ says 6 0 (Truncate f 4) (Truncated 102)
    ∷ says 7 0 (Ropen f 1) (Reader 4 (count w1 1 ∷ []) (cut 101 2 ∷ cut 102 4 ∷ []))
    ∷ says 8 0 (Read 0 9) (WasRead 0 (65 ∷ 66 ∷ 0 ∷ 0 ∷ []))
    ∷ says 9 0 Rclose ReaderClosed
    ∷ says 10 0 (Open f) (Opened w4)
    ∷ says 11 0 (Write 3 (Text (codes "Z"))) (Wrote 3 1 (Some 103))
    ∷ says 12 0 Close (Closed 1)
    ∷ says 13 0 (Ropen f 1) (Reader 4 (count w1 1 ∷ count w4 1 ∷ []) (cut 101 2 ∷ cut 102 4 ∷ []))
    ∷ says 14 0 (Read 0 9) (WasRead 0 (65 ∷ 66 ∷ 0 ∷ 90 ∷ []))
    ∷ []

-- a file that a writer has open is not truncated
abbrev pub busy : List Said
busy =
    says 3 0 (Open f) (Opened w1)
    ∷ says 4 0 (Write 0 (Text (codes "AB"))) (Wrote 0 2 (Some 10))
    ∷ says 5 1 (Truncate f 1) (Refused (Busy 0 w1))
    ∷ says 6 0 Close (Closed 1)
    ∷ says 7 1 (Truncate f 1) (Truncated 20)
    ∷ []

-- an open writer is named as alive, and stays
abbrev pub alive : List Said
alive =
    says 3 0 (Open f) (Opened w1)
    ∷ says 4 0 (Write 0 (Text (codes "AB"))) (Wrote 0 2 (Some 10))
    ∷ says 5 1 (Recover f) (Recovered [] (w1 ∷ []) false)
    ∷ says 6 1 (Truncate f 1) (Refused (Busy 0 w1))
    ∷ []

-- a file is renamed beside a reader
abbrev pub renamed : List Said
renamed =
    says 3 0 (Open f) (Opened w1)
    ∷ says 4 0 (Write 0 (Text (codes "hi"))) (Wrote 0 2 (Some 10))
    ∷ says 5 0 Close (Closed 1)
    ∷ says 6 0 (Open h) (Opened w2)
    ∷ says 7 0 Close (Closed 0)
    ∷ says 8 1 (Ropen f 1) (Reader 2 (count w1 1 ∷ []) [])
    ∷ says 9 0 (Rename f g) Renamed
    ∷ says 10 1 (Read 0 2) (WasRead 0 (codes "hi"))
    ∷ says 11 1 Rclose ReaderClosed
    ∷ says 12 1 (Ropen f 1) (Refused NoFile)
    ∷ says 13 1 (Ropen g 1) (Reader 2 (count w1 1 ∷ []) [])
    ∷ says 14 0 (Rename g h) (Refused Exists)
    ∷ says 15 0 (Rename g g) (Refused Exists)
    ∷ says 16 0 Ls (Listed (g ∷ h ∷ []))
    ∷ []

-- attributes are those of what has landed
abbrev pub attributes : List Said
attributes =
    says 3 0 (Open f) (Opened w1)
    ∷ says 4 0 (Write 0 (Text (codes "ABCDEF"))) (Wrote 0 6 (Some 10))
    ∷ says 5 1 (Stat f) (Told 0 0 [] [])
    ∷ says 6 0 Sync (Synced 1)
    ∷ says 7 1 (Stat f) (Told 6 6 (share w1 6 ∷ []) [])
    ∷ says 8 0 Close (Closed 1)
    ∷ says 9 1 (Truncate f 2) (Truncated 11)
    ∷ says 10 1 (Stat f) (Told 2 6 (share w1 6 ∷ []) (cut 11 2 ∷ []))
    ∷ []

-- ---- from other beginnings

-- a machine over a store with one file, at this mount, with this serial drawn last
abbrev pub over : PlainRoom → ℕ → ℕ → Plain
over room mark serial = record { rooms = empty_room marks_name ∷ room ∷ []; actors = map nobody one_actor; times = Some (10 ∷ []); mark = mark; serial = serial }

-- a file that was truncated at the last stamp
abbrev pub spent_room : PlainRoom
spent_room = record { name = f; is_held = false; truncs = cut 9223372036854775807 0 ∷ []; writers = [] }

-- behind it no write and no truncate has a stamp
abbrev pub stamps_spent : List Said
stamps_spent =
    says 2 0 (Open f) (Opened 8589934593)
    ∷ says 3 0 (Write 0 (Text (codes "A"))) (Refused StampsSpent)
    ∷ says 4 0 Close (Closed 0)
    ∷ says 5 0 (Truncate f 5) (Refused StampsSpent)
    ∷ says 6 0 (Truncate f 1099511627777) (Refused TooFar)
    ∷ []

-- a file that a truncate stopped in, while it held it
abbrev pub held_room : PlainRoom
held_room = record { name = f; is_held = true; truncs = []; writers = [] }

-- it is held until it is recovered, and each try takes an id
abbrev pub held : List Said
held =
    says 2 0 (Open f) (Refused Held)
    ∷ says 3 0 (Truncate f 0) (Refused Held)
    ∷ says 4 0 (Rename f g) (Refused Held)
    ∷ says 5 0 (Recover f) (Recovered [] [] true)
    ∷ says 6 0 (Open f) (Opened w4)
    ∷ []

-- a file whose writer of an earlier run, with two writes that landed, is left open
abbrev pub left_open : PlainRoom
left_open = record {
  name = f;
  is_held = false;
  truncs = [];
  writers = record {
    id = w1;
    host = 7;
    capacity = 0;
    floor = 0;
    is_open = true;
    is_owned = false;
    issued =
        record { entry = record { at = 0; len = 1; physical = 0; stamp = 10; writer = w1 }; bytes = codes "A" }
        ∷ record { entry = record { at = 1; len = 1; physical = 1; stamp = 11; writer = w1 }; bytes = codes "B" } ∷ [];
    landed = 2;
  } ∷ [];
}

-- it is recovered, and then the file is truncated
abbrev pub buried : List Said
buried =
    says 2 0 (Truncate f 0) (Refused (Busy 7 w1))
    ∷ says 3 0 (Recover f) (Recovered (count w1 2 ∷ []) [] false)
    ∷ says 4 0 (Truncate f 0) (Truncated 12)
    ∷ []

-- no id is left: the file is made all the same, and nothing else is
abbrev pub ids_spent : List Said
ids_spent =
    says 2 0 (Open g) (Refused IdsSpent)
    ∷ says 3 0 (Truncate g 1099511627777) (Refused IdsSpent)
    ∷ says 4 0 (Rename f g) (Refused IdsSpent)
    ∷ says 5 0 (Flatten f) (Refused IdsSpent)
    ∷ says 6 0 Ls (Listed (f ∷ g ∷ []))
    ∷ []
