use Rattle.serve_core.proofs.Phases.{is_broken}
use Rattle.serve_core.proofs.laws.unfinished_requests_are_a_broken_play.Goals as goal

pub returns : goal.returns
returns c = is_broken
