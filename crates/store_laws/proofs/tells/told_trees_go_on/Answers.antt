use Rattle.store_laws.proofs.Trees.Telling.{acts_told}
use Rattle.store_laws.proofs.tells.told_trees_go_on.Goals as goal

pub returns : goal.returns
returns c = acts_told
