-- Pieces that are read of one plain file.
use Rattle.std.specs.Prelude.{ℕ, ◌≡◌, ◌*◌, List, [], ◌∷◌, ◌++◌, length, take, All, Option, Some}
use Rattle.store_api.specs.Acts.{Stored}
use Rattle.mount_model.specs.History.{Event}
use Rattle.mount_model.specs.State.{State}
use Rattle.mount_sound.specs.Ledger.{Ledger}
use Rattle.mount_sound.specs.Sound.{IsSoundFor}
use Rattle.headline_laws.specs.OneFile.{OneFile, seen_bytes}
use Rattle.headline_laws.specs.Opening.{OpensOneFile}
use Rattle.script_lang.specs.declared.line.Line.{Line}
use Rattle.script_lang.specs.declared.script.Script.{Script}
use Rattle.plfs_program.specs.Cat.{IsRead, contents, piece_length, pieces_of, reader_size}
use Rattle.plfs_program.specs.Lines.{AreLinesOf, unmounted, mounted}
use Rattle.plfs_program.specs.Ways.{by_turns}

-- In the first of these calls the file of this name was opened, from a state that was sound for what had been issued before.
pub record WasOpened (start : State) (history : List Event) (name : List ℕ) (file : OneFile) : Type 0 where
  pub issued : Ledger
  pub sound : IsSoundFor issued start
  pub caller : ℕ
  pub first : List Event
  pub later : List Event
  pub all : history ≡ first ++ later
  pub opens : OpensOneFile (record { state = start; issued = issued }) caller (record { before = []; events = first }) name file

-- One file of this size was opened in these calls, and these lines tell its bytes: piece by piece from the first on, as far as pieces were read.
pub record ReadsOneFile (start : State) (history : List Event) (name : List ℕ) (size : ℕ) (lines : List Line) : Type 0 where
  pub file : OneFile
  pub opened : WasOpened start history name file
  pub long : size ≡ length (seen_bytes file)
  pub front : (reads more : List Line) → lines ≡ reads ++ more → All IsRead reads → contents reads ≡ take (length reads * piece_length) (seen_bytes file)
  pub whole : All IsRead lines → length lines ≡ pieces_of size → contents lines ≡ seen_bytes file

-- where the first line is that of a reader, the others are those of its one file
abbrev pub ShowOneFile : State → List Event → List ℕ → List Line → Type 0
ShowOneFile start history name [] = Unit {0}
ShowOneFile start history name (opened ∷ lines) = (size : ℕ) → reader_size opened.outcome ≡ Some size → ReadsOneFile start history name size lines

-- of a file that is written out the lines are those of one file, in the calls of their own play
abbrev pub AreOfOneFile : {times : Option (List ℕ)} {before after : Stored} {script : Script} (name : List ℕ) (lines : List Line) → AreLinesOf by_turns times before after script lines → Type 0
AreOfOneFile name lines (unmounted trouble failed says) = Unit {0}
AreOfOneFile name lines (mounted played) = ShowOneFile played.start played.play.history name lines
