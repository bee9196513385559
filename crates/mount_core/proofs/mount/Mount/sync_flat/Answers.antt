use Rattle.mount_core.proofs.Settled.{settled, of_writer}
use Rattle.mount_core.proofs.mount.Mount.sync_flat.Goals as goal

pub returns-in-Some : goal.returns-in-Some
returns-in-Some g c =
    rw (← c.self.view_is)
    (of_writer _ _ _ c.in-Some.flattening _ c.flattening_of.ensures.same c.in-Some.is
    (settled _ _ _ _ _ _ _ _ c.act-told.result _ (rw c.temporary_path-at.ensures at c.act-told.ensures) c.flat_synced.ensures))
