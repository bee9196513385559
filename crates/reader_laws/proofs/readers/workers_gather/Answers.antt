use Rattle.reader_laws.proofs.Gathered.OpenReaders.Shares.{workers_gathered}
use Rattle.reader_laws.proofs.readers.workers_gather.Goals as goal

pub returns : goal.returns
returns c = workers_gathered
