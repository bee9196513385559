use Rattle.std.proofs.Common.{arith}
use Rattle.program_ends.proofs.Statuses.{status_ends}
use Rattle.program_ends.proofs.lines.status_of.Goals as goal

pub returns : goal.returns
returns c = status_ends c.loop-line.status c.loop-line.line-index c.args.lines.now (omega arith) c.loop-line.invariant
