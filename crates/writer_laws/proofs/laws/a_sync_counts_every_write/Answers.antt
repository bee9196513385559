use Rattle.writer_laws.proofs.Counts.{sync_counts}
use Rattle.writer_laws.proofs.laws.a_sync_counts_every_write.Goals as goal

pub returns : goal.returns
returns c = sync_counts
