use Rattle.mount_sound.proofs.Indices.Installing.{step_installs}
use Rattle.mount_sound.proofs.installed.what_is_installed_is_right.Goals as goal

pub returns : goal.returns
returns c = step_installs
