use Rattle.reader_laws.proofs.Gathered.OpenReaders.Actors.{actor_answers}
use Rattle.reader_laws.proofs.readers.actor_reads.Goals as goal

pub returns : goal.returns
returns c = actor_answers
