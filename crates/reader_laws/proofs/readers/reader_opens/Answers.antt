use Rattle.reader_laws.proofs.Gathered.OpenReaders.Opening.{opened}
use Rattle.reader_laws.proofs.readers.reader_opens.Goals as goal

pub returns : goal.returns
returns c = opened
