use Rattle.mount_sound.proofs.Moments.Fine.{mounted_fine}
use Rattle.mount_sound.proofs.laws.mounting_is_fine.Goals as goal

pub returns : goal.returns
returns c = mounted_fine
