use Rattle.std.proofs.Common.{◌≡◌, length, take}
use Rattle.thread_runs.specs.Parts.{dealt, AreParts}
use Rattle.thread_runs.proofs.parts.deal_out.Given as goal

abbrev pub invariant-loop-statement : goal.invariant-loop-statement
invariant-loop-statement l = (length l.parts ≡ length l.fn.parts) × AreParts (take l.statement-index l.statements) (dealt l.parts)
