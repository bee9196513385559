-- What is said of a mounting that broke off.
use Rattle.std.proofs.Common.{ℕ, ◌≡◌, ◌⊎◌, List}
use Rattle.edge_io.specs.Sink.{Taking}
use Rattle.mount_model.specs.declared.mount_trouble.MountTrouble.{MountTrouble}
use Rattle.report_text.specs.Text.{text_of}
use Rattle.script_lang.specs.declared.line.Line.{Line}
use Rattle.program_ends.specs.Mounting.{IsUnmounted}
use Rattle.program_ends.specs.Outcomes.{status_of}
use Rattle.program_ends.specs.Output.{IsPrinted, IsCutOff}

-- what was said of a mounting that broke off
abbrev pub SaidUnmounted : MountTrouble → Taking → Taking → ℕ → Type 0
SaidUnmounted why taking after status =
    ((lines : List Line) × IsUnmounted why lines × (((status ≡ status_of lines) × IsPrinted (text_of lines) taking after) ⊎ ((status ≡ 6) × IsCutOff (text_of lines) taking after)))
    ⊎ ((status ≡ 3) × (after ≡ taking))
