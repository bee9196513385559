use Rattle.mount_sound.proofs.Moments.Mounting.{mounted_sound}
use Rattle.mount_sound.proofs.laws.mounting_is_sound.Goals as goal

pub returns : goal.returns
returns c = mounted_sound
