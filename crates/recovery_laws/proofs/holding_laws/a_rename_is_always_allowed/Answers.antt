use Rattle.recovery_laws.proofs.Holds.Truncating.{safe_rename}
use Rattle.recovery_laws.proofs.holding_laws.a_rename_is_always_allowed.Goals as goal

pub returns : goal.returns
returns c = safe_rename
