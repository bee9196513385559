use Rattle.reader_laws.proofs.Gathered.Logs.Gathers.{gathers}
use Rattle.reader_laws.proofs.readers.one_writer.Goals as goal

pub returns : goal.returns
returns c = gathers
