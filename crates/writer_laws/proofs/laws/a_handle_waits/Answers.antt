use Rattle.writer_laws.proofs.Waits.{handle_waits}
use Rattle.writer_laws.proofs.laws.a_handle_waits.Goals as goal

pub returns : goal.returns
returns c = handle_waits
