use Rattle.std.proofs.Common.{rules}
use Rattle.refresh_index.specs.RefreshStages.{refresh_standing, refresh_left}
use Rattle.refresh_index.proofs.refreshing.RefreshFlow.take.Goals as goal

pub after-requires : goal.after-requires
unfolding refresh_standing
after-requires c = search rules

pub returns : goal.returns
unfolding refresh_standing refresh_left
returns c = search rules
