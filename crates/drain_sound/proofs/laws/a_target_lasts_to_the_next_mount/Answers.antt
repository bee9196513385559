use Rattle.drain_sound.proofs.MountLemmas.{next_mount}
use Rattle.drain_sound.proofs.laws.a_target_lasts_to_the_next_mount.Goals as goal

pub returns : goal.returns
returns c = next_mount
