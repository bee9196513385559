use Rattle.flatten_laws.proofs.Flattening.{safe_flattening}
use Rattle.flatten_laws.proofs.laws.a_flattening_is_always_allowed.Goals as goal

pub returns : goal.returns
returns c = safe_flattening
