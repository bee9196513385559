use Rattle.reader_laws.proofs.OpenReaders.Alike.{readers_alike}
use Rattle.reader_laws.proofs.laws.flattening_leaves_readers_the_same.Goals as goal

pub returns : goal.returns
returns c = readers_alike
