-- A file that is written out from a mount.
use Rattle.std.specs.Prelude.{ℕ, ◌≡◌, ◌+◌, false, List, [], ◌∷◌, length, All, Some}
use Rattle.edge_io.specs.Sink.{Taking}
use Rattle.store_api.specs.Acts.{Stored}
use Rattle.mount_model.specs.State.{State}
use Rattle.mount_model.specs.Mounting.{IsMounted}
use Rattle.script_lang.specs.declared.line.Line.{Line}
use Rattle.actor_core.specs.declared.kept.Kept.{Kept}
use Rattle.run_core.specs.Breaking.{IsPlayBroken}
use Rattle.run_core.specs.Broken.{OneIsBroken}
use Rattle.run_core.specs.Leading.{GoesOn}
use Rattle.run_core.specs.Play.{IsPlay}
use Rattle.run_core.specs.declared.lone_reader.LoneReader.{LoneReader}
use Rattle.run_core.specs.Making.{Keeps, HasMade, HasMadeOne, Makes}
use Rattle.plfs_program.specs.Cat.{CatEnds, IsRead, is_read, content_of, contents, reading, cat_statements, cat_script}
use Rattle.plfs_program.specs.Commands.{actor}
use Rattle.program_ends.specs.Ends.{Ends}
use Rattle.plfs_program.specs.Playing.{IsPlayedAs}
use Rattle.program_ends.specs.Leaving.{IsStoreLeft}
use Rattle.program_ends.specs.Outcomes.{status_of}
use Rattle.program_ends.specs.Output.{IsPrinted, IsCutOff}
use Rattle.plfs_program.specs.ReadOut.{AreOfOneFile, ShowOneFile}
use Rattle.program_ends.specs.SoundTrees.{TellsSoundTree}
use Rattle.plfs_program.specs.Ways.{HasBegun, by_turns}

-- Calls followed a play with these lines, and were broken off as a further piece was read.
pub record WentOn (name : List ℕ) (start : State) (lines : List Line) (end : State) : Type 0 where
  pub count : ℕ
  pub mid : State
  pub play : IsPlay (cat_script name count) start lines mid
  pub later : GoesOn mid end
  pub broken : IsPlayBroken (cat_script name (count + 1)) start end

-- the mount was led so from one state to the other
abbrev pub CatsOn : List ℕ → State → Taking → State → Taking → ℕ → Type 0
CatsOn name start taking end taking_after status =
    CatEnds name (λ count lines. IsPlay (cat_script name count) start lines end) (HasBegun by_turns (cat_script name 0) start end) (λ lines. WentOn name start lines end) taking taking_after status

-- The opening had this line, and so many pieces were read and written.
pub record Reads (name : List ℕ) (start : State) (opened : Line) (k : ℕ) (taking : Taking) (reader : LoneReader) (now : State) (taking_now : Taking) : Type 0 where
  pub lines : List Line
  pub kept : Kept
  pub keeps : Keeps reader kept
  pub made : HasMade actor (cat_statements name k) start (opened ∷ lines) kept now
  pub long : length lines ≡ k
  pub read : All IsRead lines
  pub printed : IsPrinted (contents lines) taking taking_now

-- piece k was read and written
abbrev pub Writes : ℕ → LoneReader → State → Taking → LoneReader → State → Taking → Type 0
Writes k reader now taking new later taking_after =
    (kept : Kept) → Keeps reader kept → (line : Line) × HasMadeOne (reading k) kept now line new later × IsRead line × IsPrinted (content_of line.outcome) taking taking_after

-- The piece was not read, and its line says why; or it was not written whole; or memory was refused.
pub data FailsAt (k : ℕ) (reader : LoneReader) (now : State) (taking : Taking) (later : State) (taking_after : Taking) (status : ℕ) : Type 0 where
  starves : ((kept : Kept) → Keeps reader kept → OneIsBroken (reading k) kept now later) → taking_after ≡ taking → status ≡ 3 → FailsAt k reader now taking later taking_after status
  sticks : ((kept : Kept) → Keeps reader kept → (line : Line) × (left : Kept) × Makes (reading k) kept now line left later × (is_read line.outcome ≡ false) × (status ≡ status_of (line ∷ [])))
      → taking_after ≡ taking → FailsAt k reader now taking later taking_after status
  breaks : ((kept : Kept) → Keeps reader kept → (line : Line) × (left : Kept) × Makes (reading k) kept now line left later × IsRead line × IsCutOff (content_of line.outcome) taking taking_after)
      → status ≡ 6 → FailsAt k reader now taking later taking_after status

-- These are the lines of the script with so many pieces. Where the store told a sound tree, the pieces are those of one plain file.
pub record IsReadOut (name : List ℕ) (count : ℕ) (lines : List Line) (e : Ends) : Type 0 where
  pub played : IsPlayedAs by_turns (cat_script name count) lines e
  pub plain : TellsSoundTree e.stored → AreOfOneFile name lines played.in_turn

-- A mount was made, and calls followed a play with these lines. Where the store told a sound tree, they are those of one plain file.
pub record IsLeftBehind (name : List ℕ) (lines : List Line) (e : Ends) : Type 0 where
  pub after : Stored
  pub left : e.stored_after ≡ Some after
  pub start : State
  pub end : State
  pub mounted : IsMounted 0 e.times e.stored start
  pub went : WentOn name start lines end
  pub is : end.store ≡ after
  pub plain : TellsSoundTree e.stored → ShowOneFile start went.play.history name lines

-- what becomes of a file that is written out
abbrev pub CatCourse : List ℕ → Ends → ℕ → Type 0
CatCourse name e status =
    CatEnds name (λ count lines. IsReadOut name count lines e) (IsStoreLeft (HasBegun by_turns (cat_script name 0)) e) (λ lines. IsLeftBehind name lines e) e.taking e.taking_after status
