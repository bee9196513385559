use Rattle.mount_sound.proofs.Moments.LandedLater.{items_stay}
use Rattle.mount_sound.proofs.laws.what_stands_stays.Goals as goal

pub returns : goal.returns
returns c = items_stay
