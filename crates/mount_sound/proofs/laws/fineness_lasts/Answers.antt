use Rattle.mount_sound.proofs.Moments.Fine.{step_fine}
use Rattle.mount_sound.proofs.laws.fineness_lasts.Goals as goal

pub returns : goal.returns
returns c = step_fine
