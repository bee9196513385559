use Rattle.std.proofs.Common.{rules}
use Rattle.opening_flow.specs.OpeningStages.{opening_standing}
use Rattle.opening_flow.proofs.opening.Opening.new.Goals as goal

pub returns : goal.returns
unfolding opening_standing
returns c = search rules
