use Rattle.drain_laws.proofs.AllowedLemmas.{allowed_drain}
use Rattle.drain_laws.proofs.laws.a_drain_is_always_allowed.Goals as goal

pub returns : goal.returns
returns c = allowed_drain
