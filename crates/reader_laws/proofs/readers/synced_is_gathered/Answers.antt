use Rattle.reader_laws.proofs.Gathered.Moments.Bounds.{synced_gathered}
use Rattle.reader_laws.proofs.readers.synced_is_gathered.Goals as goal

pub returns : goal.returns
returns c = synced_gathered
