use Rattle.serving_laws.proofs.Order.{in_order}
use Rattle.serving_laws.proofs.laws.requests_are_made_in_their_order.Goals as goal

pub returns : goal.returns
returns c = in_order
