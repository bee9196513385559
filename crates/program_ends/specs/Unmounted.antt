-- What a program does whose mounting broke off.
use Rattle.std.specs.Prelude.{◌≡◌, ◌⊎◌, ℕ, List}
use Rattle.edge_io.specs.Sink.{Taking}
use Rattle.mount_model.specs.declared.mount_trouble.MountTrouble.{MountTrouble}
use Rattle.script_lang.specs.declared.line.Line.{Line}
use Rattle.report_text.specs.Text.{text_of}
use Rattle.program_ends.specs.Mounting.{IsUnmounted}
use Rattle.program_ends.specs.Outcomes.{status_of}
use Rattle.program_ends.specs.Output.{IsPrinted, IsCutOff}

-- what was said of a mounting that broke off: its line, or a front of it where the sink broke; nothing where memory was refused
abbrev pub IsUnmountedSaid : MountTrouble → Taking → Taking → ℕ → Type 0
IsUnmountedSaid why taking taking_after status =
    ((lines : List Line) × IsUnmounted why lines × (((status ≡ status_of lines) × IsPrinted (text_of lines) taking taking_after) ⊎ ((status ≡ 6) × IsCutOff (text_of lines) taking taking_after)))
    ⊎ ((status ≡ 3) × (taking_after ≡ taking))
