use Rattle.std.proofs.Common.{rules}
use Rattle.flatten_core.specs.FlattenStages.{flatten_standing}
use Rattle.flatten_core.proofs.flattening.FlattenFlow.new.Goals as goal

pub returns : goal.returns
unfolding flatten_standing
returns c = search rules
