use Rattle.serve_core.proofs.Phases.{none_served, one_more}
use Rattle.serve_core.proofs.laws.one_request_more_is_served.Goals as goal

pub returns-clause-none : goal.returns-clause-none
returns-clause-none c = none_served

pub returns-clause-more : goal.returns-clause-more
returns-clause-more c = one_more
