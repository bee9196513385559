use Rattle.std.proofs.Common.{◌≡◌, length, take}
use Rattle.thread_runs.specs.Collecting.{lines_in, TakesAll}
use Rattle.thread_runs.proofs.collecting.take_lines.Given as goal

abbrev pub invariant-loop-statement : goal.invariant-loop-statement
invariant-loop-statement l = (length l.all ≡ length l.fn.all) × TakesAll (take l.statement-index l.statements) l.fn.lines (lines_in l.fn.all) l.lines (lines_in l.all)
