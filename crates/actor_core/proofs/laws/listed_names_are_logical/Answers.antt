use Rattle.actor_core.proofs.NameLemmas.{logical_names}
use Rattle.actor_core.proofs.laws.listed_names_are_logical.Goals as goal

pub returns : goal.returns
returns c = logical_names
