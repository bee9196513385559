use Rattle.writer_laws.proofs.Opens.{opened_ends}
use Rattle.writer_laws.proofs.laws.an_opened_writer_has_no_entries.Goals as goal

pub returns : goal.returns
returns c = opened_ends
