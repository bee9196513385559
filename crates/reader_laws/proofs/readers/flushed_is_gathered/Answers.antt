use Rattle.reader_laws.proofs.Gathered.Moments.Bounds.{flushed_gathered}
use Rattle.reader_laws.proofs.readers.flushed_is_gathered.Goals as goal

pub returns : goal.returns
returns c = flushed_gathered
