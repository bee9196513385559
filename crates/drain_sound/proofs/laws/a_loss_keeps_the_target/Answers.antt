use Rattle.drain_sound.proofs.LossLemmas.{lost_target}
use Rattle.drain_sound.proofs.laws.a_loss_keeps_the_target.Goals as goal

pub returns : goal.returns
returns c source number name tree lost t l = lost_target source number name tree lost (λ s. c.a_lost_tree_is_sound.ensures tree lost l s) t l
