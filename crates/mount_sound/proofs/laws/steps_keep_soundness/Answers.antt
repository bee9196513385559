use Rattle.mount_sound.proofs.Moments.SoundLater.{step_keeps}
use Rattle.mount_sound.proofs.laws.steps_keep_soundness.Goals as goal

pub returns : goal.returns
returns c = step_keeps
