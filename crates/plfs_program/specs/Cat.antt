-- How a file is written out: a reader is opened, and reads it piece by piece.
use Rattle.std.specs.Prelude.{ℕ, ◌≡◌, ◌+◌, ◌*◌, ◌≤◌, ◌^◌, Bool, true, false, List, [], ◌∷◌, ◌++◌, length, map, All, Option, Some, None}
use Rattle.std.specs.Int.{div_ceil}
use Rattle.std.specs.List.{flat_map, range_with_len}
use Rattle.edge_io.specs.Sink.{Taking}
use Rattle.script_lang.specs.declared.line.Line.{Line}
use Rattle.script_lang.specs.declared.line.Outcome.{Outcome}
use Rattle.script_lang.specs.declared.line.Outcome.TheVariants.{Reader, Read as ReadLine}
use Rattle.script_lang.specs.declared.script.Numbered.{Numbered}
use Rattle.script_lang.specs.declared.script.Script.{Script}
use Rattle.script_lang.specs.declared.script.Statement.TheVariants.{Ropen, Read}
use Rattle.report_text.specs.Text.{text_of}
use Rattle.plfs_program.specs.Commands.{of_command, script_of}
use Rattle.program_ends.specs.Outcomes.{status_of}
use Rattle.program_ends.specs.Output.{IsPrinted, IsCutOff}

-- in bytes
abbrev pub piece_length : ℕ
piece_length = 2 ^ 19

-- how many pieces a file of this size has
abbrev pub pieces_of : ℕ → ℕ
pieces_of size = div_ceil size piece_length

abbrev pub opening : List ℕ → Numbered
opening name = of_command (Ropen name 1)

-- the reading of piece k
abbrev pub reading : ℕ → Numbered
reading k = of_command (Read (k * piece_length) piece_length)

-- it opens a reader, and reads so many pieces
abbrev pub cat_statements : List ℕ → ℕ → List Numbered
cat_statements name count = opening name ∷ map reading (range_with_len 0 count)

abbrev pub cat_script : List ℕ → ℕ → Script
cat_script name count = script_of (cat_statements name count)

-- the size that the line of an opening tells, where there is a reader
abbrev pub reader_size : Outcome → Option ℕ
reader_size (Reader size cut truncs) = Some size
reader_size _ = None

abbrev pub is_read : Outcome → Bool
is_read (ReadLine at content) = true
is_read _ = false

-- the line tells bytes
abbrev pub IsRead : Line → Type 0
IsRead line = is_read line.outcome ≡ true

abbrev pub content_of : Outcome → List ℕ
content_of (ReadLine at content) = content
content_of _ = []

-- the bytes that the lines tell, one behind the other
abbrev pub contents : List Line → List ℕ
contents lines = flat_map (λ (line : Line). content_of line.outcome) lines

-- How it ends, where `Played` says which lines the script has with so many pieces, `Left` that memory was refused, and `Went` that it was, behind these
-- lines. The bytes of each piece were written before the next one was read.
pub data CatEnds (name : List ℕ) (Played : ℕ → List Line → Type 0) (Left : Type 0) (Went : List Line → Type 0) (taking taking_after : Taking) (status : ℕ) : Type 0 where
  -- no reader, and the line says why
  unopened : (line : Line) → Played 0 (line ∷ []) → reader_size line.outcome ≡ None → IsPrinted (text_of (line ∷ [])) taking taking_after → status ≡ status_of (line ∷ [])
      → CatEnds name Played Left Went taking taking_after status
  unsaid : (line : Line) → Played 0 (line ∷ []) → reader_size line.outcome ≡ None → IsCutOff (text_of (line ∷ [])) taking taking_after → status ≡ 6 → CatEnds name Played Left Went taking taking_after status
  -- all pieces
  whole : (opened : Line) (reads : List Line) (size : ℕ) → reader_size opened.outcome ≡ Some size → Played (pieces_of size) (opened ∷ reads) → All IsRead reads → IsPrinted (contents reads) taking taking_after → status ≡ 0
      → CatEnds name Played Left Went taking taking_after status
  -- those before a piece that was not read
  stuck : (opened : Line) (reads : List Line) (last : Line) (size : ℕ) → reader_size opened.outcome ≡ Some size → length reads + 1 ≤ pieces_of size → Played (length reads + 1) (opened ∷ (reads ++ last ∷ []))
      → All IsRead reads → is_read last.outcome ≡ false → IsPrinted (contents reads) taking taking_after → status ≡ status_of (last ∷ []) → CatEnds name Played Left Went taking taking_after status
  -- those before a piece that was not written whole
  broken : (opened : Line) (reads : List Line) (last : Line) (size : ℕ) (mid : Taking) → reader_size opened.outcome ≡ Some size → length reads + 1 ≤ pieces_of size → Played (length reads + 1) (opened ∷ (reads ++ last ∷ []))
      → All IsRead reads → IsRead last → IsPrinted (contents reads) taking mid → IsCutOff (content_of last.outcome) mid taking_after → status ≡ 6 → CatEnds name Played Left Went taking taking_after status
  -- those before memory was refused
  starved : (opened : Line) (reads : List Line) → Went (opened ∷ reads) → All IsRead reads → IsPrinted (contents reads) taking taking_after → status ≡ 3 → CatEnds name Played Left Went taking taking_after status
  hungry : Left → taking_after ≡ taking → status ≡ 3 → CatEnds name Played Left Went taking taking_after status
