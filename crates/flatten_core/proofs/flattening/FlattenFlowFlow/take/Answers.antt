use Rattle.std.proofs.Common.{rules}
use Rattle.flatten_core.specs.FlattenStages.{flatten_standing, flatten_left}
use Rattle.flatten_core.proofs.flattening.FlattenFlowFlow.take.Goals as goal

pub after-requires : goal.after-requires
unfolding flatten_standing
after-requires c = search rules

pub returns : goal.returns
unfolding flatten_standing flatten_left
returns c = search rules
