use Rattle.reader_laws.proofs.Gathered.Moments.Bounds.{sync_lands}
use Rattle.reader_laws.proofs.histories.sync_lands.Goals as goal

pub returns : goal.returns
returns c = sync_lands
