-- How the printing of what a run says ended.
use Rattle.std.specs.Prelude.{ℕ, ◌≡◌, ◌⊎◌, List}
use Rattle.edge_io.specs.Sink.{Taking}
use Rattle.script_lang.specs.declared.line.Line.{Line}
use Rattle.script_lang.specs.declared.line.Outcome.{Outcome}
use Rattle.program_ends.specs.Output.{IsPrinted, IsCutOff}

-- the line of a trouble, which has no line of a script
abbrev pub line_zero : Outcome → Line
line_zero outcome = record { number = 0; outcome = outcome }

-- the text was printed, with this status; or it was cut off; or memory was refused before
abbrev pub IsReported : List ℕ → ℕ → Taking → Taking → ℕ → Type 0
IsReported text decided taking taking_after status =
    ((status ≡ decided) × IsPrinted text taking taking_after)
    ⊎ ((status ≡ 6) × IsCutOff text taking taking_after)
    ⊎ ((status ≡ 3) × (taking_after ≡ taking))
