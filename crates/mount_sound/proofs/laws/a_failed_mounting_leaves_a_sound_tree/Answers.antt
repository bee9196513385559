use Rattle.mount_sound.proofs.Moments.Mounting.{failed_sound}
use Rattle.mount_sound.proofs.laws.a_failed_mounting_leaves_a_sound_tree.Goals as goal

pub returns : goal.returns
returns c = failed_sound
