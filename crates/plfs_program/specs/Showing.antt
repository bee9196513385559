-- What is shown of the lines of a script.
use Rattle.std.specs.Prelude.{ℕ, Bool, true, false, List, [], ◌∷◌, ◌==◌, if◌then◌else◌}
use Rattle.script_lang.specs.declared.line.Line.{Line}
use Rattle.script_lang.specs.declared.line.Outcome.{Outcome}
use Rattle.script_lang.specs.declared.line.Outcome.TheVariants.{Reader}
use Rattle.report_text.specs.Text.{text_of}
use Rattle.plfs_program.specs.Summary.{summary}
use Rattle.plfs_program.specs.declared.showing.Shown.{Shown}
use Rattle.plfs_program.specs.declared.showing.Shown.TheVariants as shown

-- the text that is printed of the lines, and those of them that decide the status
pub record Shows : Type 0 where
  pub text : List Line → List ℕ
  pub decide : List Line → List Line

abbrev pub all_lines : Shows
all_lines = record { text = text_of; decide = λ lines. lines }

abbrev pub is_reader : Outcome → Bool
is_reader (Reader size cut truncs) = true
is_reader _ = false

-- of an opening and what follows it: what follows where there is a reader, and else why there is none
abbrev pub behind_opening : List Line → List Line
behind_opening [] = []
behind_opening (line ∷ lines) = if is_reader line.outcome then lines else line ∷ []

abbrev pub past_opening : Shows
past_opening = record { text = λ lines. text_of (behind_opening lines); decide = behind_opening }

-- line 0 alone, of a mounting that broke off
abbrev pub is_line_zero : List Line → Bool
is_line_zero (line ∷ []) = line.number == 0
is_line_zero other = false

-- a summary of the lines, where there was a mount
abbrev pub summary_text : List Line → List ℕ
summary_text lines = if is_line_zero lines then text_of lines else summary lines

abbrev pub summed_up : Shows
summed_up = record { text = summary_text; decide = λ lines. lines }

abbrev pub shows_of : Shown → Shows
shows_of shown.All = all_lines
shows_of shown.PastOpening = past_opening
shows_of shown.Summed = summed_up
