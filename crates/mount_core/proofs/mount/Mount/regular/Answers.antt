use Rattle.mount_table.proofs.Facts.{regular_as}
use Rattle.mount_core.proofs.mount.Mount.regular.Goals as goal

pub returns : goal.returns
returns g c = rw (← c.self.view_is) (regular_as _ _ _ c.self.inside.roster c.regular.ensures)
