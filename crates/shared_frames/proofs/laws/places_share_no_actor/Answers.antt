use Rattle.shared_frames.proofs.Moving.{apart}
use Rattle.shared_frames.proofs.laws.places_share_no_actor.Goals as goal

pub returns : goal.returns
returns c = apart
