use Rattle.refusal_laws.proofs.Facts.{does_work}
use Rattle.refusal_laws.proofs.laws.calls_do_their_work.Goals as goal

pub returns : goal.returns
returns c = does_work
