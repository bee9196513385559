use Rattle.mount_sound.proofs.Soundness.Trees.{left_sound}
use Rattle.mount_sound.proofs.laws.a_left_tree_is_sound.Goals as goal

pub returns : goal.returns
returns c = left_sound
