use Rattle.reader_laws.proofs.Gathered.OpenReaders.Actors.{actor_opened}
use Rattle.reader_laws.proofs.readers.actor_opens.Goals as goal

pub returns : goal.returns
returns c = actor_opened
