use Rattle.std.proofs.Common.{◌≡◌, drop}
use Rattle.program_ends.proofs.Statuses.{status_from}
use Rattle.program_ends.proofs.lines.status_of.Given as goal

abbrev pub invariant-loop-line : goal.invariant-loop-line
invariant-loop-line l = status_from l.status (drop l.line-index l.lines) ≡ status_from 0 l.lines
