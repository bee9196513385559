use Rattle.serving_laws.proofs.Ended.{ended_so}
use Rattle.serving_laws.proofs.laws.what_ended_so_was_served.Goals as goal

pub returns : goal.returns
returns c = ended_so
