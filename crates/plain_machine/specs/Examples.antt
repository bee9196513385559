-- Worked examples of writing and reading.
use Rattle.std.specs.Prelude.{ℕ, ◌+◌, List, [], ◌∷◌, ◌++◌, map, Some, None, codes}
use Rattle.std.specs.List.{range_with_len}
use Rattle.script_lang.specs.declared.line.Outcome.TheVariants.{Closed, Flattened, Map as Mapped, Opened, Read as WasRead, Reader, Refused, Same, Differs, Synced, Wrote}
use Rattle.script_lang.specs.declared.line.Why.TheVariants.{NotOpen, AlreadyOpen, TooFar}
use Rattle.script_lang.specs.declared.script.Data.TheVariants.{Fill, Hex, Text}
use Rattle.script_lang.specs.declared.script.Statement.TheVariants.{Close, Flatten, Map, Open, Read, Refresh, Ropen, Sync, Verify, Write}
use Rattle.plain_machine.specs.Saying.{Said, count, f, piece, says, w1, w2}

-- what was written, synced and closed is read
abbrev pub hello : List Said
hello =
    says 2 0 (Open f) (Opened w1)
    ∷ says 3 0 (Write 0 (Text (codes "hello"))) (Wrote 0 5 (Some 10))
    ∷ says 4 0 Sync (Synced 1)
    ∷ says 5 0 Close (Closed 1)
    ∷ says 6 0 (Ropen f 1) (Reader 5 (count w1 1 ∷ []) [])
    ∷ says 7 0 (Read 0 5) (WasRead 0 (codes "hello"))
    ∷ []

-- what waits in a buffer isn't seen
abbrev pub waiting : List Said
waiting =
    says 2 0 (Open f) (Opened w1)
    ∷ says 3 0 (Write 0 (Text (codes "hello"))) (Wrote 0 5 (Some 10))
    ∷ says 4 0 (Ropen f 1) (Reader 0 [] [])
    ∷ says 5 0 (Read 0 5) (WasRead 0 [])
    ∷ []

-- two writers of one place, who open in this order and whose writes have these stamps, and what a reader then reads
abbrev pub two_writers : ℕ → ℕ → ℕ → ℕ → List ℕ → List Said
two_writers one other stamp later found =
    says 5 0 (Write 0 (Text (codes "AAAA"))) (Wrote 0 4 (Some stamp))
    ∷ says 6 1 (Write 1 (Text (codes "BB"))) (Wrote 1 2 (Some later))
    ∷ says 7 0 Close (Closed 1)
    ∷ says 8 1 Close (Closed 1)
    ∷ says 9 0 (Ropen f 2) (Reader 4 (count w1 1 ∷ count w2 1 ∷ []) [])
    ∷ says 10 0 (Read 0 4) (WasRead 0 found)
    ∷ []

abbrev pub opened_in_order : List Said
opened_in_order = says 3 0 (Open f) (Opened w1) ∷ says 4 1 (Open f) (Opened w2) ∷ []

abbrev pub opened_late : List Said
opened_late = says 3 1 (Open f) (Opened w1) ∷ says 4 0 (Open f) (Opened w2) ∷ []

-- where writes overlap the later stamp shows
abbrev pub overlap : List Said
overlap = opened_in_order ++ two_writers w1 w2 10 11 (codes "ABBA")
    ++ says 11 0 Map (Mapped (piece 0 1 10 w1 0 ∷ piece 1 2 11 w2 0 ∷ piece 3 1 10 w1 3 ∷ [])) ∷ []

-- at one stamp the greater id
abbrev pub tie : List Said
tie = opened_in_order ++ two_writers w1 w2 10 10 (codes "ABBA")

abbrev pub tie_turned : List Said
tie_turned = opened_late ++ two_writers w2 w1 10 10 (codes "AAAA")

-- and a smaller id by its later stamp
abbrev pub late_clock : List Said
late_clock = opened_in_order ++ two_writers w1 w2 20 10 (codes "AAAA") ++ says 11 0 Map (Mapped (piece 0 4 20 w1 0 ∷ [])) ∷ []

-- a writer's stamps rise, though the clock goes back
abbrev pub rising : List Said
rising =
    says 2 0 (Open f) (Opened w1)
    ∷ says 3 0 (Write 0 (Text (codes "A"))) (Wrote 0 1 (Some 50))
    ∷ says 4 0 (Write 1 (Text (codes "B"))) (Wrote 1 1 (Some 51))
    ∷ []

-- bytes that were never written read as zeros, and none past the end
abbrev pub hole : List Said
hole =
    says 2 0 (Open f) (Opened w1)
    ∷ says 3 0 (Write 4 (Text (codes "X"))) (Wrote 4 1 (Some 10))
    ∷ says 4 0 Close (Closed 1)
    ∷ says 5 0 (Ropen f 1) (Reader 5 (count w1 1 ∷ []) [])
    ∷ says 6 0 (Read 0 5) (WasRead 0 (0 ∷ 0 ∷ 0 ∷ 0 ∷ 88 ∷ []))
    ∷ says 7 0 (Read 5 3) (WasRead 5 [])
    ∷ says 8 0 (Read 3 9) (WasRead 3 (0 ∷ 88 ∷ []))
    ∷ []

-- a write of no bytes is none, wherever it stands
abbrev pub no_bytes : List Said
no_bytes =
    says 2 0 (Open f) (Opened w1)
    ∷ says 3 0 (Write 3 (Hex [])) (Wrote 3 0 None)
    ∷ says 4 0 Sync (Synced 0)
    ∷ says 5 0 (Ropen f 1) (Reader 0 [] [])
    ∷ []

-- a file ends at 2^40, and a write that is refused takes no stamp
abbrev pub far : List Said
far =
    says 2 0 (Open f) (Opened w1)
    ∷ says 3 0 (Write 1099511627772 (Text (codes "ABCD"))) (Wrote 1099511627772 4 (Some 10))
    ∷ says 4 0 (Write 1099511627773 (Text (codes "ABCD"))) (Refused TooFar)
    ∷ says 5 0 (Write 0 (Text (codes "Z"))) (Wrote 0 1 (Some 11))
    ∷ []

-- the write of one byte at each place, one after the other
abbrev pub one_byte : ℕ → Said
one_byte j = says (3 + j) 0 (Write j (Text (codes "A"))) (Wrote j 1 (Some (10 + j)))

-- the 65th write finds a full buffer, and has it emptied first
abbrev pub full : List Said
full = says 2 0 (Open f) (Opened w1) ∷ map one_byte (range_with_len 0 65) ++ says 68 0 (Ropen f 1) (Reader 64 (count w1 64 ∷ []) []) ∷ []

-- an index is flattened between two syncs
abbrev pub flattened : List Said
flattened =
    says 3 0 (Open f) (Opened w1)
    ∷ says 4 0 (Write 0 (Text (codes "AAAA"))) (Wrote 0 4 (Some 10))
    ∷ says 5 0 Sync (Synced 1)
    ∷ says 6 1 (Flatten f) (Flattened w2 1 (count w1 1 ∷ []))
    ∷ says 7 0 (Write 1 (Text (codes "BB"))) (Wrote 1 2 (Some 11))
    ∷ says 8 0 Sync (Synced 2)
    ∷ says 9 1 (Ropen f 1) (Reader 4 (count w1 2 ∷ []) [])
    ∷ says 10 1 (Read 0 9) (WasRead 0 (codes "ABBA"))
    ∷ says 11 1 Map (Mapped (piece 0 1 10 w1 0 ∷ piece 1 2 11 w1 4 ∷ piece 3 1 10 w1 3 ∷ []))
    ∷ []

-- an open reader sees what it saw, until it is refreshed
abbrev pub refreshed : List Said
refreshed =
    says 3 0 (Open f) (Opened w1)
    ∷ says 4 0 (Write 0 (Text (codes "AAAA"))) (Wrote 0 4 (Some 10))
    ∷ says 5 0 Sync (Synced 1)
    ∷ says 6 1 (Ropen f 1) (Reader 4 (count w1 1 ∷ []) [])
    ∷ says 7 0 (Write 1 (Text (codes "BB"))) (Wrote 1 2 (Some 11))
    ∷ says 8 0 Sync (Synced 2)
    ∷ says 9 1 (Verify 0 (Fill 4 65)) Same
    ∷ says 10 1 Refresh (Reader 4 (count w1 2 ∷ []) [])
    ∷ says 11 1 (Read 0 4) (WasRead 0 (codes "ABBA"))
    ∷ says 12 1 (Verify 0 (Fill 4 65)) (Differs 1)
    ∷ []

-- what is made without a writer or a reader, or with one too many
abbrev pub without : List Said
without =
    says 2 0 (Write 0 (Text (codes "A"))) (Refused NotOpen)
    ∷ says 3 0 Sync (Refused NotOpen)
    ∷ says 4 0 Close (Refused NotOpen)
    ∷ says 5 0 (Read 0 5) (Refused NotOpen)
    ∷ says 6 0 Map (Refused NotOpen)
    ∷ says 7 0 Refresh (Refused NotOpen)
    ∷ says 8 0 (Open f) (Opened w1)
    ∷ says 9 0 (Open f) (Refused AlreadyOpen)
    ∷ says 10 0 (Ropen f 1) (Reader 0 [] [])
    ∷ says 11 0 (Ropen f 1) (Refused AlreadyOpen)
    ∷ []
