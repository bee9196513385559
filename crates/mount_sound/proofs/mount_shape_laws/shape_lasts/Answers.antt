use Rattle.mount_sound.proofs.Shapes.Steps.{step_shape}
use Rattle.mount_sound.proofs.mount_shape_laws.shape_lasts.Goals as goal

pub returns : goal.returns
returns c = step_shape
