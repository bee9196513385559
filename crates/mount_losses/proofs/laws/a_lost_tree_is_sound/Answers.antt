use Rattle.store_laws.proofs.Facts.{have_lost}
use Rattle.mount_losses.proofs.Losses.{lost_tree_sound}
use Rattle.mount_losses.proofs.laws.a_lost_tree_is_sound.Goals as goal

pub returns : goal.returns
returns c = λ tree new l s. lost_tree_sound tree new (have_lost tree new l) s
