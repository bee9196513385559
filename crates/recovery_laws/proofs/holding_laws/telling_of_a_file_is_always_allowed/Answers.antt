use Rattle.recovery_laws.proofs.Holds.Telling.{safe_telling}
use Rattle.recovery_laws.proofs.holding_laws.telling_of_a_file_is_always_allowed.Goals as goal

pub returns : goal.returns
returns c = safe_telling
