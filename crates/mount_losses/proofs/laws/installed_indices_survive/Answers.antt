use Rattle.mount_losses.proofs.Losses.{indices_survive}
use Rattle.mount_losses.proofs.laws.installed_indices_survive.Goals as goal

pub returns : goal.returns
returns c = indices_survive
