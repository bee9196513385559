use Rattle.reader_laws.proofs.Gathered.OpenReaders.Opening.{answers_last}
use Rattle.reader_laws.proofs.readers.reader_answers.Goals as goal

pub returns : goal.returns
returns c = answers_last
