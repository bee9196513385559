use Rattle.store_laws.proofs.Trees.OrderKept.{orderly_told}
use Rattle.store_laws.proofs.touches.order_is_kept.Goals as goal

pub returns : goal.returns
returns c = orderly_told
