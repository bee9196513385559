use Rattle.writer_laws.proofs.Surviving.{sync_survives}
use Rattle.writer_laws.proofs.laws.a_sync_survives.Goals as goal

pub returns : goal.returns
returns c = sync_survives
