use Rattle.mount_sound.proofs.Soundness.HasLanded.{landed_was_issued}
use Rattle.mount_sound.proofs.laws.what_landed_was_issued.Goals as goal

pub returns : goal.returns
returns c = landed_was_issued
