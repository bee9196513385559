use Rattle.mount_sound.proofs.Indices.Installing.{indices_stay}
use Rattle.mount_sound.proofs.installed.installed_indices_stay.Goals as goal

pub returns : goal.returns
returns c = indices_stay
