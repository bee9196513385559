use Rattle.reader_laws.proofs.Gathered.OpenReaders.Failing.{log_ends}
use Rattle.reader_laws.proofs.readers.open_readers_fail_by_store.Goals as goal

pub returns : goal.returns
returns c = log_ends
