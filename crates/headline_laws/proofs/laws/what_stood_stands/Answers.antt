use Rattle.headline_laws.proofs.Trees.Still.{still}
use Rattle.headline_laws.proofs.laws.what_stood_stands.Goals as goal

pub returns : goal.returns
returns c = still
