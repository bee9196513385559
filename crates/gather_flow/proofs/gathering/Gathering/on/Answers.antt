use Rattle.std.proofs.Common.{arith}
use Rattle.index_reader.specs.Stages.{share_standing}
use Rattle.gather_flow.proofs.ReaderLemmas.{begins_share}
use Rattle.gather_flow.proofs.gathering.Gathering.on.Goals as goal

pub returns-clause-standing : goal.returns-clause-standing
returns-clause-standing c =
    begins_share c.args.workers c.args.listed c.args.worker c.args.sofar (share_standing c.in-Ok.flow) (omega (arith, c.if-worker-workers.false))
    c.in-Ok.ensures.standing
