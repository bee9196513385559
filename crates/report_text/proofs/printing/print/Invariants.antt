use Rattle.std.proofs.Common.{◌≡◌, take}
use Rattle.report_text.specs.Text.{text_of}
use Rattle.report_text.proofs.printing.print.Given as goal

abbrev pub invariant-loop-line : goal.invariant-loop-line
invariant-loop-line l = l.out.items ≡ text_of (take l.line-index l.line-items)
