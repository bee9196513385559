use Rattle.frame_format.proofs.Apart.{one_request}
use Rattle.frame_format.proofs.laws.requests_are_told_apart.Goals as goal

pub returns : goal.returns
returns c = one_request
