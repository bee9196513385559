use Rattle.mount_model.specs.Flattening.{install_step, install_outcome}
use Rattle.mount_core.proofs.Settled.{settled}
use Rattle.mount_core.proofs.mount.Mount.install_flat_file.Goals as goal

pub returns : goal.returns
returns g c =
    rw (← c.self.view_is) (settled _ _ _ _ _ _ (install_step c.args.flattening) (install_outcome c.args.flattening c.self.inside.roster.table) c.act-told.result _ (rw (c.temporary_path-at.ensures, c.installed_path.ensures) at c.act-told.ensures) c.flat_installed.ensures)
