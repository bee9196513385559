use Rattle.store_laws.proofs.Facts.{have_lost}
use Rattle.mount_sound.proofs.Shapes.Losing.{lost_shaped}
use Rattle.mount_sound.proofs.mount_shape_laws.a_lost_tree_is_shaped.Goals as goal

pub returns : goal.returns
returns c = λ tree new l s. lost_shaped tree new (have_lost tree new l) s
