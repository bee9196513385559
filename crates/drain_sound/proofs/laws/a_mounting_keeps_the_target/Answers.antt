use Rattle.drain_sound.proofs.MountingLemmas.{mounting_target}
use Rattle.drain_sound.proofs.laws.a_mounting_keeps_the_target.Goals as goal

pub returns : goal.returns
returns c = mounting_target
