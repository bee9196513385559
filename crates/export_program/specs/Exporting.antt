-- A file that a caller by itself writes out.
use Rattle.std.specs.Prelude.{ℕ, ◌≡◌, ◌<◌, List, length, Result, Ok, Err}
use Rattle.edge_io.specs.Sink.{Taking}
use Rattle.mount_model.specs.State.{State}
use Rattle.mount_model.specs.Paths.{Name}
use Rattle.lone_flow.specs.Driving.{BeginsToMake, Makes}
use Rattle.mount_model.specs.declared.stuck.Stuck.{Stuck as Trouble}
use Rattle.index_reader.specs.declared.opened.OpenReader.{OpenReader}
use Rattle.opening_flow.specs.Opening.{opening_program}
use Rattle.export_program.specs.declared.piece.Unwritten.{Unwritten}
use Rattle.export_program.specs.declared.piece.Unwritten.TheVariants.{Stuck}
use Rattle.export_program.specs.Pieces.{HaveWritten, WritesPiece, piece_program, pieces_of}

-- All pieces of the reader's file were read and written, and its size was told. Or the first ones were, and the next one met this.
pub data WritesOut (reader : OpenReader) (start : State) (taking : Taking) (told : Result ℕ Unwritten) (end : State) (taking_after : Taking) : Type 0 where
  whole : (pieces : List (List ℕ)) → HaveWritten reader start taking pieces end taking_after → length pieces ≡ pieces_of reader.size → told ≡ Ok reader.size → WritesOut reader start taking told end taking_after
  ended : (pieces : List (List ℕ)) (why : Unwritten) (mid : State) (taken : Taking) → HaveWritten reader start taking pieces mid taken → WritesPiece reader (length pieces) mid taken (Err why) end taking_after → told ≡ Err why
      → WritesOut reader start taking told end taking_after

-- Caller 0 by itself opened a reader, and its file was written out; or the opening ended in the first trouble.
pub data WritesFile (name : Name) (start : State) (taking : Taking) (told : Result ℕ Unwritten) (end : State) (taking_after : Taking) : Type 0 where
  opens : (reader : OpenReader) (opened : State) → Makes (opening_program name 1) start (Ok reader) opened → WritesOut reader opened taking told end taking_after → WritesFile name start taking told end taking_after
  opens_stuck : (why : Trouble) → told ≡ Err (Stuck why) → taking_after ≡ taking → Makes (opening_program name 1) start (Err why) end → WritesFile name start taking told end taking_after

-- ---- broken off, since memory was wanting

-- behind these pieces, which are not all, in the read of the next one
pub record BeginsToWriteOut (reader : OpenReader) (start : State) (taking : Taking) (end : State) (taking_after : Taking) : Type 0 where
  pub pieces : List (List ℕ)
  pub mid : State
  pub written : HaveWritten reader start taking pieces mid taking_after
  pub not_all : length pieces < pieces_of reader.size
  pub begins : BeginsToMake (piece_program reader (length pieces)) mid end

-- in the opening, or behind it
pub data BeginsToWrite (name : Name) (start : State) (taking : Taking) (end : State) (taking_after : Taking) : Type 0 where
  to_open : BeginsToMake (opening_program name 1) start end → taking_after ≡ taking → BeginsToWrite name start taking end taking_after
  to_write : (reader : OpenReader) (opened : State) → Makes (opening_program name 1) start (Ok reader) opened → BeginsToWriteOut reader opened taking end taking_after → BeginsToWrite name start taking end taking_after
