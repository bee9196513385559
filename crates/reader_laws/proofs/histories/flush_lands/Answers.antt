use Rattle.reader_laws.proofs.Gathered.Moments.Bounds.{flush_lands}
use Rattle.reader_laws.proofs.histories.flush_lands.Goals as goal

pub returns : goal.returns
returns c = flush_lands
