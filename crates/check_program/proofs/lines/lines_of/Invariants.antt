use Rattle.std.proofs.Common.{◌≡◌, take}
use Rattle.check_program.specs.Lines.{complaint_lines}
use Rattle.check_program.proofs.lines.lines_of.Given as goal

abbrev pub invariant-loop-complaint : goal.invariant-loop-complaint
invariant-loop-complaint l = l.text.items ≡ complaint_lines (take l.complaint-index l.complaints)
