use Rattle.std.proofs.Common.{◌∙◌}
use Rattle.mount_table.proofs.Scans.{next_number, next_other}
use Rattle.mount_table.proofs.scanning.greatest.Goals as goal
use Rattle.mount_table.proofs.scanning.greatest.Goals.{in-Some, in-None}

pub loop-name-preserved : goal.loop-name-preserved
loop-name-preserved c = elim c.match-number_in.branch [
  | in-Some w ↦ next_number c.args.listing c.args.names.now c.loop-name.name-index c.name-item.result c.loop-name.greatest w.in-Some.number c.loop-name.other c.match-number_in.greatest c.match-number_in.other c.loop-name.invariant c.loop-name-test.true c.name-item.is
      w.in-Some.ensures.some.0 w.in-Some.ensures.some.1 (w.greatest-is ∙ w.max-greatest.ensures) w.other-is
  | in-None w ↦ next_other c.args.listing c.args.names.now c.loop-name.name-index c.name-item.result c.loop-name.greatest c.loop-name.other w.lesser.result c.match-number_in.greatest c.match-number_in.other c.loop-name.invariant c.loop-name-test.true c.name-item.is
      w.in-None.ensures.none w.lesser.ensures w.greatest-is w.other-is
]
