use Rattle.std.proofs.Common.{◌≡◌, ◌+◌, refl, ap}
use Rattle.mount_model.specs.declared.row.Row.{Row}
use Rattle.mount_model.specs.Flushing.{flushed}
use Rattle.mount_table.specs.contracts.roster.Roster.{the_view}
use Rattle.mount_table.proofs.Counts.{flushed_counted}
use Rattle.mount_table.proofs.Rolls.{put_keeps, put_is, counted_at, at_now, same_row}
use Rattle.mount_table.proofs.roster.Roster.land.Goals as goal

pub invariant_of-self : goal.invariant_of-self
invariant_of-self c =
    let roll = the_view c.self.inside in
    let row = c.writer.inside.row in
    rw (c.pending.ensures.count, c.clear.ensures)
    (put_keeps roll c.args.self.now c.args.place row (flushed row) c.self.view_is c.self.invariant c.requires (same_row _ c.args.place c.writer.inside.row _ c.writer.view_is c.index_mut-writer.ensures.value)
    (flushed_counted row (counted_at roll c.args.self.now c.args.place row c.self.view_is c.self.invariant c.requires (same_row _ c.args.place c.writer.inside.row _ c.writer.view_is c.index_mut-writer.ensures.value))) refl refl)

pub returns-clause-left : goal.returns-clause-left
returns-clause-left c =
    rw (c.pending.ensures.count, c.clear.ensures)
    (put_is (the_view c.self.inside) c.args.self.now c.args.place c.writer.inside.row flushed c.self.view_is c.self.invariant c.requires (same_row _ c.args.place c.writer.inside.row _ c.writer.view_is c.index_mut-writer.ensures.value) refl)

pub returns-clause-count : goal.returns-clause-count
returns-clause-count c =
    let row = c.writer.inside.row in
    at_now (the_view c.self.inside) c.args.self.now c.args.place row (λ (r : Row). row.landed + c.pending.result ≡ (flushed r).landed) c.self.view_is c.requires (same_row _ c.args.place c.writer.inside.row _ c.writer.view_is c.index_mut-writer.ensures.value)
    (ap (λ n. row.landed + n) c.pending.ensures.count)
