use Rattle.store_laws.proofs.Trees.Losing.{have_lost}
use Rattle.store_laws.proofs.losses.losses_leave_fronts.Goals as goal

pub returns : goal.returns
returns c = have_lost
