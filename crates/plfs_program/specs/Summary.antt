-- The summary of lines: how many there are, how many of each kind, and the size that the last one tells.
use Rattle.std.specs.Prelude.{ℕ, ◌-◌, Bool, true, false, List, ◌++◌, length, slice_get, Option, Some, None, codes}
use Rattle.std.specs.List.{count_by}
use Rattle.std.specs.Fmt.{decimal}
use Rattle.script_lang.specs.declared.line.Line.{Line}
use Rattle.script_lang.specs.declared.line.Outcome.{Outcome}
use Rattle.script_lang.specs.declared.line.Outcome.TheVariants.{Same, Differs, Stat}
use Rattle.program_ends.specs.Outcomes.{is_refusal, is_fault, is_damage}
use Rattle.plfs_program.specs.declared.summary.Counted.{Counted}
use Rattle.plfs_program.specs.declared.summary.Counted.TheVariants as of

abbrev pub is_same : Outcome → Bool
is_same Same = true
is_same _ = false

abbrev pub is_difference : Outcome → Bool
is_difference (Differs place) = true
is_difference _ = false

-- the outcomes that a row counts
abbrev pub is_counted : Counted → Outcome → Bool
is_counted of.Refused outcome = is_refusal outcome
is_counted of.Faults outcome = is_fault outcome
is_counted of.Damaged outcome = is_damage outcome
is_counted of.Same outcome = is_same outcome
is_counted of.Differs outcome = is_difference outcome

-- how many of the lines have such an outcome
abbrev pub count : Counted → List Line → ℕ
count counted lines = count_by (λ (line : Line). is_counted counted line.outcome) lines

-- the size that a file's attributes tell
abbrev pub told_size : Outcome → Option ℕ
told_size (Stat size stored shares truncs) = Some size
told_size _ = None

abbrev pub size_in : Option Line → Option ℕ
size_in None = None
size_in (Some line) = told_size line.outcome

-- the size that the last line tells
abbrev pub last_size : List Line → Option ℕ
last_size lines = size_in (slice_get lines (length lines - 1))

abbrev pub size_text : Option ℕ → List ℕ
size_text None = codes "-"
size_text (Some size) = decimal size

-- a word and what stands behind it
abbrev pub row : List ℕ → List ℕ → List ℕ
row word text = word ++ (text ++ codes "\n")

-- seven rows
abbrev pub summary : List Line → List ℕ
summary lines =
    row (codes "lines ") (decimal (length lines))
    ++ (row (codes "refused ") (decimal (count of.Refused lines))
    ++ (row (codes "faults ") (decimal (count of.Faults lines))
    ++ (row (codes "damaged ") (decimal (count of.Damaged lines))
    ++ (row (codes "same ") (decimal (count of.Same lines))
    ++ (row (codes "differs ") (decimal (count of.Differs lines))
    ++ row (codes "size ") (size_text (last_size lines)))))))
