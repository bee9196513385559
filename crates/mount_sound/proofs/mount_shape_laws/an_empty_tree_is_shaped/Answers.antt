use Rattle.mount_sound.proofs.Shapes.Held.{empty_shaped}
use Rattle.mount_sound.proofs.mount_shape_laws.an_empty_tree_is_shaped.Goals as goal

pub returns : goal.returns
returns c = empty_shaped
