-- What is said of a file that was written out, or wasn't.
use Rattle.std.specs.Prelude.{ℕ, Bool, true, false, List, [], ◌∷◌, ◌++◌, codes}
use Rattle.std.specs.Fmt.{decimal}
use Rattle.mount_model.specs.declared.stuck.Stuck.{Stuck as Trouble}
use Rattle.mount_model.specs.declared.stuck.Stuck.TheVariants as trouble
use Rattle.outcomes.specs.Outcomes.{stuck_outcome}
use Rattle.report_text.specs.Text.{text_of}
use Rattle.program_ends.specs.Reported.{line_zero}
use Rattle.program_ends.specs.Outcomes.{status_of}
use Rattle.export_program.specs.declared.filling.Filled.{Filled}
use Rattle.export_program.specs.declared.filling.Filled.TheVariants as filled

-- why a file can't be read
abbrev pub stuck_text : Trouble → List ℕ
stuck_text why = text_of (line_zero (stuck_outcome why) ∷ [])

abbrev pub stuck_status : Trouble → ℕ
stuck_status why = status_of (line_zero (stuck_outcome why) ∷ [])

-- what became of a file: it has so many bytes, or why it wasn't kept
abbrev pub filled_text : Filled → List ℕ
filled_text (filled.Whole size) = codes "got " ++ (decimal size ++ codes "\n")
filled_text filled.Exists = codes "0 refused exists\n"
filled_text (filled.Stuck why) = stuck_text why
filled_text filled.Failed = codes "failed\n"

-- a file's line begins with its name
abbrev pub filled_line : List ℕ → Filled → List ℕ
filled_line name told = name ++ (codes " " ++ filled_text told)

abbrev pub filled_status : Filled → ℕ
filled_status (filled.Whole size) = 0
filled_status filled.Exists = 1
filled_status (filled.Stuck why) = stuck_status why
filled_status filled.Failed = 6

-- the store failed
abbrev pub is_fault : Trouble → Bool
is_fault trouble.Fault = true
is_fault _ = false

-- behind this no further file is written out
abbrev pub is_last : Filled → Bool
is_last (filled.Stuck why) = is_fault why
is_last _ = false
