use Rattle.mount_sound.proofs.DeadWriters.Recovering.{only_dead}
use Rattle.mount_sound.proofs.recovery.only_the_dead_are_recovered.Goals as goal

pub returns : goal.returns
returns c = only_dead
