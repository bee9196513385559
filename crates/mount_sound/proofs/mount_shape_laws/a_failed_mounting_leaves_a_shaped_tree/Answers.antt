use Rattle.mount_sound.proofs.Shapes.Mounts.{failed_shape}
use Rattle.mount_sound.proofs.mount_shape_laws.a_failed_mounting_leaves_a_shaped_tree.Goals as goal

pub returns : goal.returns
returns c = failed_shape
