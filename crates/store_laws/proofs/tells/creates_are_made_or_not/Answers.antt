use Rattle.store_laws.proofs.Trees.Telling.{create_told}
use Rattle.store_laws.proofs.tells.creates_are_made_or_not.Goals as goal

pub returns : goal.returns
returns c = create_told
