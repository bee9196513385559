use Rattle.mount_sound.proofs.Soundness.Trees.{empty_sound}
use Rattle.mount_sound.proofs.laws.an_empty_tree_is_sound.Goals as goal

pub returns : goal.returns
returns c = empty_sound
