use Rattle.mount_losses.proofs.Surviving.{kept_stays}
use Rattle.mount_losses.proofs.laws.what_is_kept_stays_kept.Goals as goal

pub returns : goal.returns
returns c = kept_stays
