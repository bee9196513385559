use Rattle.drain_sound.proofs.FrontLemmas.{front_sound}
use Rattle.drain_sound.proofs.laws.a_front_is_sound.Goals as goal

pub returns : goal.returns
returns c = front_sound
