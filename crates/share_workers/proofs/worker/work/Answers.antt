use Rattle.std.proofs.Common.{rules}
use Rattle.share_workers.proofs.WorkersTogether.{reads_safe}
use Rattle.share_workers.proofs.worker.work.Goals as goal

pub read_through-requires-clause-safe : goal.read_through-requires-clause-safe
read_through-requires-clause-safe g c = reads_safe c.args.turn.now c.requires.program c.args.worker.now c.in-ToRead.flow c.requires.may (search rules)
