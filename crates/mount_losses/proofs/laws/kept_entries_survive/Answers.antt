use Rattle.mount_losses.proofs.Surviving.{kept_survive}
use Rattle.mount_losses.proofs.laws.kept_entries_survive.Goals as goal

pub returns : goal.returns
returns c = kept_survive
