-- What reading lines answers.
use Rattle.std.specs.Prelude.{◌≡◌, ℕ, ◌+◌, ◌<◌, List, ◌++◌, length, All, Result, Ok, Err}
use Rattle.script_lang.specs.declared.line.Line.{Line}
use Rattle.report_text.specs.declared.trouble.ReportTrouble.{ReportTrouble}
use Rattle.report_text.specs.declared.trouble.ReportTrouble.TheVariants.{Bad, NoMemory}
use Rattle.report_text.specs.Text.{text_of, text_of_line}
use Rattle.report_text.specs.Widths.{IsLine}

-- what was read is these lines, unless memory was refused
abbrev pub AreRead : Result (List Line) ReportTrouble → List Line → Type 0
AreRead (Ok read) lines = read ≡ lines
AreRead (Err (Bad line)) lines = ⊥
AreRead (Err NoMemory) lines = Unit {0}

-- the first line that is none, from 1: the bytes before it are the text of lines, some are left, and no line's text begins there
pub record BreaksAtLine (bytes : List ℕ) (number : ℕ) : Type 0 where
  pub front : List Line
  pub rest : List ℕ
  pub parts : bytes ≡ text_of front ++ rest
  pub front_fits : All IsLine front
  pub place : number ≡ length front + 1
  pub some_left : 0 < length rest
  pub no_line : (line : Line) (others : List ℕ) → IsLine line → ¬ (rest ≡ text_of_line line ++ others)

abbrev pub IsReportTrouble : List ℕ → ReportTrouble → Type 0
IsReportTrouble bytes (Bad line) = BreaksAtLine bytes line
IsReportTrouble bytes NoMemory = Unit {0}
