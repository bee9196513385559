use Rattle.mount_sound.proofs.Holds.Excluding.{keep_out}
use Rattle.mount_sound.proofs.exclusion.holders_keep_writers_out.Goals as goal

pub returns : goal.returns
returns c = keep_out
