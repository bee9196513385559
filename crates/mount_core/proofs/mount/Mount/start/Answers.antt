use Rattle.mount_core.proofs.Admitted.{not_started}
use Rattle.mount_core.proofs.mount.Mount.start.Goals as goal

pub returns-in-Err : goal.returns-in-Err
returns-in-Err g c = rw (← c.self.view_is) (not_started c.args.caller c.args.room c.args.makes _ _ _ _ _ c.in-Err.reply c.in-Err.ensures.err)
