use Rattle.reader_laws.proofs.Gathered.OpenReaders.Opening.{shared_opened}
use Rattle.reader_laws.proofs.readers.shared_reader_opens.Goals as goal

pub returns : goal.returns
returns c = shared_opened
