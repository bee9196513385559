use Rattle.serve_core.proofs.Phases.{is_play}
use Rattle.serve_core.proofs.laws.served_requests_are_a_play.Goals as goal

pub returns : goal.returns
returns c = is_play
