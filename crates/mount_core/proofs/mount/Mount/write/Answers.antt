use Rattle.std.proofs.Common.{◌≡◌, length, rules}
use Rattle.mount_model.specs.declared.row.Row.{Row}
use Rattle.mount_model.specs.Paths.{log_path}
use Rattle.mount_model.specs.Writing.{write_outcome}
use Rattle.mount_table.specs.Settling.{IsSettled}
use Rattle.mount_core.proofs.Settled.{settled, of_row, of_writer, not_refused}
use Rattle.mount_core.proofs.mount.Mount.write.Goals as goal

pub returns : goal.returns
returns g c =
    let roll = c.self.inside.roster in
    let row = c.row-row.result.now in
    let log_is = of_row _ row (λ (r : Row). c.log-log.result.now ≡ log_path r.host r.id) c.row-row.ensures.same c.log-log.ensures in
    let is = of_row _ row (λ (r : Row). IsSettled (write_outcome c.stamp_at-stamp.result r c.args.at (length c.as_slice-bytes.result.now) roll.table c.act-told.result) roll c.logged.result c.logged.new.self) c.row-row.ensures.same c.logged.ensures in
    rw (← c.self.view_is, ← c.as_slice-bytes.ensures.value)
    (of_writer _ _ _ row _ c.in-Some.ensures.some c.row-row.ensures.same
    (not_refused _ _ _ _ _ _ c.write_check.ensures c.in_default-write_check.is (record {
      some = rw c.as_slice-bytes.ensures.value c.as_slice-bytes.ensures.not_empty;
      time = c.now.result;
      times = g.C.Clock.times c.now.new.self;
      in_range = search rules;
      ticks = c.now.ensures;
      makes = settled _ _ _ _ _ _ _ _ c.act-told.result _ (rw log_is at c.act-told.ensures) (rw c.stamp_at-stamp.ensures.same at is);
    })))
