use Rattle.std.proofs.Common.{rules}
use Rattle.flatten_core.specs.FlattenStages.{flatten_standing}
use Rattle.flatten_core.proofs.flattening.FlattenFlowFlow.out.Goals as goal

pub unreachable-requires : goal.unreachable-requires
unfolding flatten_standing
unreachable-requires c = search rules

pub returns : goal.returns
unfolding flatten_standing
returns c = search rules
