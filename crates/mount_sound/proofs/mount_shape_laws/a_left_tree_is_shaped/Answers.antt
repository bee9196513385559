use Rattle.mount_sound.proofs.Shapes.Held.{left_shaped}
use Rattle.mount_sound.proofs.mount_shape_laws.a_left_tree_is_shaped.Goals as goal

pub returns : goal.returns
returns c = left_shaped
