use Rattle.mount_model.specs.declared.row.Row.{Row}
use Rattle.mount_model.specs.Flushing.{flush_outcome}
use Rattle.mount_table.specs.Settling.{IsSettled}
use Rattle.mount_core.proofs.Settled.{settled, of_row, at_row}
use Rattle.mount_core.proofs.mount.Mount.flush_pending.Goals as goal

pub returns : goal.returns
returns g c =
    let roll = c.self.inside.roster in
    let is = of_row _ c.row-row.result.now (λ (row : Row). IsSettled (flush_outcome row roll.table c.act-told.result) roll c.flushed.result c.flushed.new.self) c.row-row.ensures.same c.flushed.ensures in
    rw (← c.self.view_is)
    (at_row _ c.row-row.result.now _ c.row-row.ensures.same
    (settled _ _ _ _ _ _ _ _ c.act-told.result _ (rw (c.index_path-at.ensures, c.bytes.ensures.encoded) at c.act-told.ensures) is))
