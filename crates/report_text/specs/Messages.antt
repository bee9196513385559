-- What is printed where bytes are no lines.
use Rattle.std.specs.Prelude.{ℕ, List, ◌++◌, codes}
use Rattle.std.specs.Fmt.{decimal}
use Rattle.report_text.specs.declared.trouble.ReportTrouble.{ReportTrouble}
use Rattle.report_text.specs.declared.trouble.ReportTrouble.TheVariants.{Bad, NoMemory}

abbrev pub trouble_text : ReportTrouble → List ℕ
trouble_text (Bad line) = codes "line " ++ decimal line ++ codes " is none that is printed"
trouble_text NoMemory = codes "memory was refused"
