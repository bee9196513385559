use Rattle.reader_laws.proofs.Gathered.OpenReaders.Parts.{parts_in_logs}
use Rattle.reader_laws.proofs.readers.parts_lie_in_logs.Goals as goal

pub returns : goal.returns
returns c = parts_in_logs
