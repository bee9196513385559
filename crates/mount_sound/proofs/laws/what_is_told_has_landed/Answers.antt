use Rattle.mount_sound.proofs.Soundness.There.{told_in_sound}
use Rattle.mount_sound.proofs.laws.what_is_told_has_landed.Goals as goal

pub returns : goal.returns
returns c = told_in_sound
