-- What is said of a drain.
use Rattle.std.specs.Prelude.{ℕ, List, [], ◌∷◌, ◌++◌, Result, Ok, Err, codes}
use Rattle.std.specs.Fmt.{decimal}
use Rattle.script_lang.specs.declared.line.Outcome.{Outcome}
use Rattle.script_lang.specs.declared.line.Outcome.TheVariants.{Damaged, Fault}
use Rattle.report_text.specs.Text.{text_of}
use Rattle.outcomes.specs.Outcomes.{stuck_outcome}
use Rattle.program_ends.specs.Reported.{line_zero}
use Rattle.program_ends.specs.Outcomes.{status_of}
use Rattle.drain_copy.specs.declared.outcome.Drained.{Drained}
use Rattle.drain_copy.specs.declared.outcome.DrainStuck.{DrainStuck}
use Rattle.drain_copy.specs.declared.outcome.DrainStuck.TheVariants.{Source, Taken, TargetDamaged, TargetFault}

-- What it wrote; that a writer which was settled at the target went on; or the trouble that it had.
pub data DrainReport : Type 0 where
  wrote : Drained → DrainReport
  went_on : ℕ → ℕ → ℕ → DrainReport
  had : Outcome → DrainReport

abbrev pub report_of : Result Drained DrainStuck → DrainReport
report_of (Ok drained) = wrote drained
report_of (Err (Source why)) = had (stuck_outcome why)
report_of (Err TargetFault) = had Fault
report_of (Err (TargetDamaged folder file place)) = had (Damaged folder file place)
report_of (Err (Taken writer there here)) = went_on writer there here

-- of how many writers entries were written, how many entries, and how many bytes of their logs
abbrev pub drained_line : Drained → List ℕ
drained_line drained = codes "drained " ++ (decimal drained.writers ++ (codes " " ++ (decimal drained.entries ++ (codes " " ++ (decimal drained.bytes ++ codes "\n")))))

-- the writer, how many entries it has at the target, and how many at the source
abbrev pub taken_line : ℕ → ℕ → ℕ → List ℕ
taken_line writer there here = codes "0 refused taken " ++ (decimal writer ++ (codes " " ++ (decimal there ++ (codes " " ++ (decimal here ++ codes "\n")))))

abbrev pub drain_text : DrainReport → List ℕ
drain_text (wrote drained) = drained_line drained
drain_text (went_on writer there here) = taken_line writer there here
drain_text (had outcome) = text_of (line_zero outcome ∷ [])

abbrev pub drain_status : DrainReport → ℕ
drain_status (wrote drained) = 0
drain_status (went_on writer there here) = 1
drain_status (had outcome) = status_of (line_zero outcome ∷ [])
