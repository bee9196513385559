use Rattle.mount_sound.proofs.Moments.SoundLater.{history_keeps}
use Rattle.mount_sound.proofs.laws.soundness_lasts.Goals as goal

pub returns : goal.returns
returns c = history_keeps
