use Rattle.store_laws.proofs.Looks.Answering.{length_tells}
use Rattle.store_laws.proofs.answers.length_tells.Goals as goal

pub returns : goal.returns
returns c = length_tells
