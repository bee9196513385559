use Rattle.shared_frames.proofs.Moving.{none, same}
use Rattle.shared_frames.proofs.laws.a_placed_request_is_the_same_of_another_actor.Goals as goal

pub returns-clause-same : goal.returns-clause-same
returns-clause-same c = same

pub returns-clause-none : goal.returns-clause-none
returns-clause-none c = none
