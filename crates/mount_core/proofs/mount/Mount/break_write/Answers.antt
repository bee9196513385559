use Rattle.mount_model.specs.Stopping.{part_of}
use Rattle.mount_core.proofs.WholeCalls.{part_at}
use Rattle.mount_core.proofs.mount.Mount.break_write.Goals as goal

pub returns-in-Some : goal.returns-in-Some
returns-in-Some g c =
    rw (← c.self.view_is) (part_at (part_of c.args.k) _ _ c.in-Some.place _ _ c.break_write_at.result _ c.in-Some.ensures.within c.in-Some.ensures.some (rw (← c.self.view_is) at c.break_write_at.ensures))
