use Rattle.store_laws.proofs.Looks.Answering.{find_tells}
use Rattle.store_laws.proofs.answers.finding_tells.Goals as goal

pub returns : goal.returns
returns c = find_tells
