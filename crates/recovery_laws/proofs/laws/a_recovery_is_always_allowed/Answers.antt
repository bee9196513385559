use Rattle.recovery_laws.proofs.Recovering.{safe_recovery}
use Rattle.recovery_laws.proofs.laws.a_recovery_is_always_allowed.Goals as goal

pub returns : goal.returns
returns c = safe_recovery
