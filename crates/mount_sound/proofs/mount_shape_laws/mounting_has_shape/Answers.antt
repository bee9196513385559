use Rattle.mount_sound.proofs.Shapes.Mounts.{mounted_shape}
use Rattle.mount_sound.proofs.mount_shape_laws.mounting_has_shape.Goals as goal

pub returns : goal.returns
returns c = mounted_shape
