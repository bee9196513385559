use Rattle.mount_model.specs.declared.row.Row.{Row}
use Rattle.mount_model.specs.Leaving.{put_meta_outcome}
use Rattle.mount_table.specs.Settling.{IsSettled}
use Rattle.mount_core.proofs.Settled.{settled, of_row, of_writer, not_refused}
use Rattle.mount_core.proofs.mount.Mount.put_meta.Goals as goal

pub returns-in-None-put_meta_check : goal.returns-in-None-put_meta_check
returns-in-None-put_meta_check g c =
    let roll = c.self.inside.roster in
    let is = of_row _ c.row-row.result.now (λ (row : Row). IsSettled (put_meta_outcome row roll.table c.act-told.result) roll c.closed.result c.closed.new.self) c.row-row.ensures.same c.closed.ensures in
    rw (← c.self.view_is)
    (of_writer _ _ _ c.row-row.result.now _ c.in-Some.ensures.some c.row-row.ensures.same
    (not_refused _ _ _ _ _ _ c.put_meta_check.ensures c.in-None-put_meta_check.is
    (settled _ _ _ _ _ _ _ _ c.act-told.result _ (rw c.meta_path-at.ensures at c.act-told.ensures) is)))
