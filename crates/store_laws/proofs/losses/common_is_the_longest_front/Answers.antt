use Rattle.store_api.proofs.Facts.{common_within}
use Rattle.store_laws.proofs.Trees.Common.{common_same, common_longest}
use Rattle.store_laws.proofs.losses.common_is_the_longest_front.Goals as goal

pub returns-clause-within : goal.returns-clause-within
returns-clause-within c = common_within

pub returns-clause-same : goal.returns-clause-same
returns-clause-same c = common_same

pub returns-clause-longest : goal.returns-clause-longest
returns-clause-longest c = common_longest
