use Rattle.reader_laws.proofs.Gathered.Logs.Readable.{gathered_readable}
use Rattle.reader_laws.proofs.readers.gathered_entries_are_readable.Goals as goal

pub returns : goal.returns
returns c = gathered_readable
