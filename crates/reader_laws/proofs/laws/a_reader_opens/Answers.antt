use Rattle.reader_laws.proofs.OpenReaders.Readers.{opens_alone}
use Rattle.reader_laws.proofs.laws.a_reader_opens.Goals as goal

pub returns : goal.returns
returns c = opens_alone
