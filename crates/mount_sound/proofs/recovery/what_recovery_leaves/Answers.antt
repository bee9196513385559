use Rattle.mount_sound.proofs.DeadWriters.Recovering.{has_recovered}
use Rattle.mount_sound.proofs.recovery.what_recovery_leaves.Goals as goal

pub returns : goal.returns
returns c = has_recovered
