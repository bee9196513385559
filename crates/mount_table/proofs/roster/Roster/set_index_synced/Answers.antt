use Rattle.std.proofs.Common.{◌≡◌, refl}
use Rattle.mount_model.specs.declared.row.Row.{Row}
use Rattle.mount_model.specs.Flushing.{index_synced}
use Rattle.mount_table.specs.contracts.roster.Roster.{the_view}
use Rattle.mount_table.proofs.Counts.{index_synced_counted}
use Rattle.mount_table.proofs.Rolls.{put_keeps, put_is, counted_at, at_now, same_row}
use Rattle.mount_table.proofs.roster.Roster.set_index_synced.Goals as goal

pub invariant_of-self : goal.invariant_of-self
invariant_of-self c =
    let roll = the_view c.self.inside in
    let row = c.writer.inside.row in
    put_keeps roll c.args.self.now c.args.place row (index_synced row) c.self.view_is c.self.invariant c.requires (same_row _ c.args.place c.writer.inside.row _ c.writer.view_is c.index_mut-writer.ensures.value)
    (index_synced_counted row (counted_at roll c.args.self.now c.args.place row c.self.view_is c.self.invariant c.requires (same_row _ c.args.place c.writer.inside.row _ c.writer.view_is c.index_mut-writer.ensures.value))) refl refl

pub returns-clause-left : goal.returns-clause-left
returns-clause-left c = put_is (the_view c.self.inside) c.args.self.now c.args.place c.writer.inside.row index_synced c.self.view_is c.self.invariant c.requires (same_row _ c.args.place c.writer.inside.row _ c.writer.view_is c.index_mut-writer.ensures.value) refl

pub returns-clause-count : goal.returns-clause-count
returns-clause-count c =
    let row = c.writer.inside.row in
    at_now (the_view c.self.inside) c.args.self.now c.args.place row (λ (r : Row). row.landed ≡ r.landed) c.self.view_is c.requires (same_row _ c.args.place c.writer.inside.row _ c.writer.view_is c.index_mut-writer.ensures.value) refl
