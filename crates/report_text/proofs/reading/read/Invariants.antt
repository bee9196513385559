use Rattle.std.proofs.Common.{length}
use Rattle.report_text.proofs.Begins.{Progress}
use Rattle.report_text.proofs.reading.read.Given as goal

abbrev pub invariant-loop-rest : goal.invariant-loop-rest
invariant-loop-rest l = Progress l.bytes l.lines l.rest

abbrev pub decreases-loop-rest : goal.decreases-loop-rest
decreases-loop-rest l = length l.rest
