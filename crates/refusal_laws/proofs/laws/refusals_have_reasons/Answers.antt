use Rattle.refusal_laws.proofs.Facts.{has_reason}
use Rattle.refusal_laws.proofs.laws.refusals_have_reasons.Goals as goal

pub returns : goal.returns
returns c = has_reason
