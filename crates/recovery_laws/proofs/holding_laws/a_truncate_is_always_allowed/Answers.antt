use Rattle.recovery_laws.proofs.Holds.Truncating.{safe_truncate}
use Rattle.recovery_laws.proofs.holding_laws.a_truncate_is_always_allowed.Goals as goal

pub returns : goal.returns
returns c = safe_truncate
