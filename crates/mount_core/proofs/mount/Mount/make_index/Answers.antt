use Rattle.mount_model.specs.declared.row.Row.{Row}
use Rattle.mount_model.specs.declared.row.Stage.TheVariants.{Indexed}
use Rattle.mount_model.specs.Building.{build_outcome}
use Rattle.mount_table.specs.Settling.{IsSettled}
use Rattle.mount_core.proofs.Settled.{settled, of_row, of_writer}
use Rattle.mount_core.proofs.mount.Mount.make_index.Goals as goal

pub returns-in-Some : goal.returns-in-Some
returns-in-Some g c =
    let roll = c.self.inside.roster in
    let at = c.index_path-at.result in
    let is = of_row _ c.row-row.result.now (λ (row : Row). IsSettled (build_outcome Indexed at.folder at.file row roll.table c.act-told.result) roll c.built.result c.built.new.self) c.row-row.ensures.same c.built.ensures in
    rw (← c.self.view_is)
    (of_writer _ _ _ c.row-row.result.now _ c.in-Some.ensures.some c.row-row.ensures.same
    (settled _ _ _ _ _ _ _ _ c.act-told.result _ (rw c.index_path-at.ensures at c.act-told.ensures) (rw c.index_path-at.ensures at is)))
