-- A file's bytes, piece by piece: each piece is written before the next one is read.
use Rattle.std.specs.Prelude.{ℕ, ◌≡◌, ◌*◌, ◌^◌, ◌++◌, List, [], ◌∷◌, length, Result, Ok, Err}
use Rattle.std.specs.Int.{div_ceil}
use Rattle.edge_io.specs.Sink.{Taking}
use Rattle.mount_model.specs.Program.{Program}
use Rattle.mount_model.specs.State.{State}
use Rattle.mount_model.specs.declared.call.Call.{Call}
use Rattle.mount_model.specs.declared.reply.Reply.{Reply}
use Rattle.lone_flow.specs.Driving.{Makes}
use Rattle.mount_model.specs.declared.stuck.Stuck.{Stuck as Trouble}
use Rattle.read_plan.specs.Plan.{plan_of}
use Rattle.index_reader.specs.declared.opened.OpenReader.{OpenReader}
use Rattle.index_reader.specs.Reading.{read_program}
use Rattle.export_program.specs.declared.piece.Unwritten.{Unwritten}
use Rattle.export_program.specs.declared.piece.Unwritten.TheVariants.{Stuck, Broken}
use Rattle.program_ends.specs.Output.{IsPrinted, IsCutOff}

-- in bytes
abbrev pub piece_length : ℕ
piece_length = 2 ^ 20

-- how many pieces a file of this size has
abbrev pub pieces_of : ℕ → ℕ
pieces_of size = div_ceil size piece_length

-- the calls that read piece k
abbrev pub piece_program : OpenReader → ℕ → Program Call Reply (Result (List ℕ) Trouble)
piece_program reader k = read_program reader.room reader.hosts (plan_of reader.pieces reader.size (k * piece_length) piece_length)

-- The piece was read, and all of it was written. Or its read ended in a trouble. Or it was read and not all of it was written.
abbrev pub WritesPiece : OpenReader → ℕ → State → Taking → Result (Unit {0}) Unwritten → State → Taking → Type 0
WritesPiece reader k start taking (Ok told) end taking_after = (piece : List ℕ) × Makes (piece_program reader k) start (Ok piece) end × IsPrinted piece taking taking_after
WritesPiece reader k start taking (Err (Stuck why)) end taking_after = Makes (piece_program reader k) start (Err why) end × (taking_after ≡ taking)
WritesPiece reader k start taking (Err Broken) end taking_after = (piece : List ℕ) × Makes (piece_program reader k) start (Ok piece) end × IsCutOff piece taking taking_after

-- these pieces were read and written, of which the last one stands first
abbrev pub HaveWritten : OpenReader → State → Taking → List (List ℕ) → State → Taking → Type 0
HaveWritten reader start taking [] end taking_after = (end ≡ start) × (taking_after ≡ taking)
HaveWritten reader start taking (piece ∷ earlier) end taking_after =
    (mid : State) × (taken : Taking) × HaveWritten reader start taking earlier mid taken × Makes (piece_program reader (length earlier)) mid (Ok piece) end × IsPrinted piece taken taking_after

-- the bytes of pieces of which the last one stands first
abbrev pub bytes_of : List (List ℕ) → List ℕ
bytes_of [] = []
bytes_of (piece ∷ earlier) = bytes_of earlier ++ piece
