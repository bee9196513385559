use Rattle.mount_losses.proofs.Losses.{lost_told}
use Rattle.mount_losses.proofs.laws.a_lost_mount_is_sound.Goals as goal

pub returns : goal.returns
returns c = lost_told
