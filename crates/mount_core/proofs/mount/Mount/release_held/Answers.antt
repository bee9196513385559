use Rattle.mount_model.specs.Holding.{release_step, release_outcome}
use Rattle.mount_core.proofs.Settled.{settled}
use Rattle.mount_core.proofs.mount.Mount.release_held.Goals as goal

pub returns : goal.returns
returns g c =
    rw (← c.self.view_is) (settled _ _ _ _ _ _ (release_step c.args.holder) (release_outcome c.args.holder c.self.inside.roster.table) c.act-told.result _ (rw c.openhosts.ensures at c.act-told.ensures) c.released.ensures)
