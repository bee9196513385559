use Rattle.mount_losses.proofs.Surviving.{opened_survive}
use Rattle.mount_losses.proofs.laws.what_was_kept_at_mounting_survives.Goals as goal

pub returns : goal.returns
returns c = opened_survive
