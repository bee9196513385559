use Rattle.drain_sound.proofs.StepLemmas.{step_target}
use Rattle.drain_sound.proofs.laws.a_step_keeps_the_target.Goals as goal

pub returns : goal.returns
returns c = step_target
