use Rattle.mount_model.specs.declared.row.Row.{Row}
use Rattle.mount_model.specs.Flooring.{FloorOutcome}
use Rattle.mount_core.proofs.Settled.{floored, of_row, of_writer}
use Rattle.mount_core.proofs.mount.Mount.floor.Goals as goal

pub returns-in-Some : goal.returns-in-Some
returns-in-Some g c =
    let roll = c.self.inside.roster in
    let outcome = of_row _ c.row.result.now (λ (row : Row). FloorOutcome row roll.table c.act-told.result c.floored.result c.floored.new.self.table) c.row.ensures.same c.floored.ensures.outcome in
    rw (← c.self.view_is)
    (of_writer _ _ _ c.row.result.now _ c.in-Some.ensures.some c.row.ensures.same
    (floored _ _ _ _ _ _ _ c.act-told.result _ (rw c.truncs.ensures at c.act-told.ensures) outcome c.floored.ensures.rest))
