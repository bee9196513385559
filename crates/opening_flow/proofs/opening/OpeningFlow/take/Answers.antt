use Rattle.std.proofs.Common.{rules}
use Rattle.opening_flow.specs.OpeningStages.{opening_standing, opening_left}
use Rattle.opening_flow.proofs.opening.OpeningFlow.take.Goals as goal

pub after-requires : goal.after-requires
unfolding opening_standing
after-requires c = search rules

pub returns : goal.returns
unfolding opening_standing opening_left
returns c = search rules
