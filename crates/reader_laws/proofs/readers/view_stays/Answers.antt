use Rattle.reader_laws.proofs.Gathered.OpenReaders.Opening.{view_stays}
use Rattle.reader_laws.proofs.readers.view_stays.Goals as goal

pub returns : goal.returns
returns c = view_stays
