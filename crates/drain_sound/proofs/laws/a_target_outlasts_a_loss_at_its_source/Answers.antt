use Rattle.drain_sound.proofs.SourceLossLemmas.{next_mount_after_loss}
use Rattle.drain_sound.proofs.laws.a_target_outlasts_a_loss_at_its_source.Goals as goal

pub returns : goal.returns
returns c source number name tree left lost there serial times opened start s told at loses sound m opens kept t = next_mount_after_loss source s number left lost there told at loses serial times opened start m opens name tree sound kept t
