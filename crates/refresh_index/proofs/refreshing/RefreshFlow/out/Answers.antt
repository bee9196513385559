use Rattle.std.proofs.Common.{rules}
use Rattle.refresh_index.specs.RefreshStages.{refresh_standing}
use Rattle.refresh_index.proofs.refreshing.RefreshFlow.out.Goals as goal

pub unreachable-requires : goal.unreachable-requires
unfolding refresh_standing
unreachable-requires c = search rules

pub returns : goal.returns
unfolding refresh_standing
returns c = search rules
