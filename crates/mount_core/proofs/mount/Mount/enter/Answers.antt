use Rattle.mount_core.proofs.Admitted.{turned_away}
use Rattle.mount_core.proofs.mount.Mount.enter.Goals as goal

pub returns-in-Err : goal.returns-in-Err
returns-in-Err g c = rw (← c.self.view_is) (turned_away c.args.caller c.args.room c.args.host c.args.cap _ _ _ _ _ c.in-Err.reply c.ranges.host.fits c.in-Err.ensures.err)
