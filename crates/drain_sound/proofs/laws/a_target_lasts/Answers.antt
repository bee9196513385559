use Rattle.drain_sound.proofs.LastsLemmas.{target_lasts}
use Rattle.drain_sound.proofs.laws.a_target_lasts.Goals as goal

pub returns : goal.returns
returns c = target_lasts
