use Rattle.std.proofs.Common.{rules}
use Rattle.opening_flow.specs.OpeningStages.{opening_standing}
use Rattle.opening_flow.proofs.opening.OpeningFlow.out.Goals as goal

pub unreachable-requires : goal.unreachable-requires
unfolding opening_standing
unreachable-requires c = search rules

pub returns : goal.returns
unfolding opening_standing
returns c = search rules
