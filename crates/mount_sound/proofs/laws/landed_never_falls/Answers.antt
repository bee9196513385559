use Rattle.mount_sound.proofs.Moments.LandedLater.{landed_stays}
use Rattle.mount_sound.proofs.laws.landed_never_falls.Goals as goal

pub returns : goal.returns
returns c = landed_stays
