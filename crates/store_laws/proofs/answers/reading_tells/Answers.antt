use Rattle.store_laws.proofs.Looks.Answering.{read_tells}
use Rattle.store_laws.proofs.answers.reading_tells.Goals as goal

pub returns : goal.returns
returns c = read_tells
