use Rattle.reader_laws.proofs.Gathered.OpenReaders.Opening.{view_answers}
use Rattle.reader_laws.proofs.readers.view_is_answered.Goals as goal

pub returns : goal.returns
returns c = view_answers
