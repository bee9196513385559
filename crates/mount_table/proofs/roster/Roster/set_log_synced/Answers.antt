use Rattle.std.proofs.Common.{refl}
use Rattle.mount_model.specs.Flushing.{log_synced}
use Rattle.mount_table.specs.contracts.roster.Roster.{the_view}
use Rattle.mount_table.proofs.Counts.{log_synced_counted}
use Rattle.mount_table.proofs.Rolls.{put_keeps, put_is, counted_at, same_row}
use Rattle.mount_table.proofs.roster.Roster.set_log_synced.Goals as goal

pub invariant_of-self : goal.invariant_of-self
invariant_of-self c =
    let roll = the_view c.self.inside in
    let row = c.writer.inside.row in
    put_keeps roll c.args.self.now c.args.place row (log_synced row) c.self.view_is c.self.invariant c.requires (same_row _ c.args.place c.writer.inside.row _ c.writer.view_is c.index_mut-writer.ensures.value)
    (log_synced_counted row (counted_at roll c.args.self.now c.args.place row c.self.view_is c.self.invariant c.requires (same_row _ c.args.place c.writer.inside.row _ c.writer.view_is c.index_mut-writer.ensures.value))) refl refl

pub returns : goal.returns
returns c = put_is (the_view c.self.inside) c.args.self.now c.args.place c.writer.inside.row log_synced c.self.view_is c.self.invariant c.requires (same_row _ c.args.place c.writer.inside.row _ c.writer.view_is c.index_mut-writer.ensures.value) refl
