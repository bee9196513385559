use Rattle.std.proofs.Common.{refl}
use Rattle.mount_model.specs.declared.row.Row.{Row}
use Rattle.mount_model.specs.Writing.{wrote}
use Rattle.mount_table.specs.Writable.{MayTake, IsStampFor}
use Rattle.mount_table.specs.contracts.roster.Roster.{the_view}
use Rattle.mount_table.proofs.Counts.{wrote_counted}
use Rattle.mount_table.proofs.Rolls.{here, put_keeps, put_is, counted_at, same_row}
use Rattle.mount_table.proofs.roster.Roster.keep_entry.Goals as goal

pub invariant_of-self : goal.invariant_of-self
invariant_of-self c =
    let roll = the_view c.self.inside in
    let row = c.writer.inside.row in
    let fine = here roll c.args.self.now c.args.place row (λ (r : Row). MayTake r c.args.at c.args.len) c.self.view_is c.requires.within (same_row _ c.args.place c.writer.inside.row _ c.writer.view_is c.index_mut-writer.ensures.value) c.requires.fine in
    let stamped = here roll c.args.self.now c.args.place row (λ (r : Row). IsStampFor r c.args.stamp) c.self.view_is c.requires.within (same_row _ c.args.place c.writer.inside.row _ c.writer.view_is c.index_mut-writer.ensures.value) c.requires.stamped in
    rw (c.push.ensures, c.max-writer-inside.ensures)
    (put_keeps roll c.args.self.now c.args.place row (wrote c.args.stamp row c.args.at c.args.len) c.self.view_is c.self.invariant c.requires.within (same_row _ c.args.place c.writer.inside.row _ c.writer.view_is c.index_mut-writer.ensures.value)
    (wrote_counted c.args.stamp row c.args.at c.args.len fine stamped (counted_at roll c.args.self.now c.args.place row c.self.view_is c.self.invariant c.requires.within (same_row _ c.args.place c.writer.inside.row _ c.writer.view_is c.index_mut-writer.ensures.value))) refl refl)

pub returns : goal.returns
returns c =
    rw (c.push.ensures, c.max-writer-inside.ensures)
    (put_is (the_view c.self.inside) c.args.self.now c.args.place c.writer.inside.row (λ (r : Row). wrote c.args.stamp r c.args.at c.args.len) c.self.view_is c.self.invariant c.requires.within (same_row _ c.args.place c.writer.inside.row _ c.writer.view_is c.index_mut-writer.ensures.value) refl)
