use Rattle.std.proofs.Common.{[], subst, arith}
use Rattle.container_layout.specs.Items.{IsInRange}
use Rattle.container_layout.proofs.Short.{short_two}
use Rattle.container_layout.proofs.printing.print.Goals as goal

pub path-requires-in-Trunc-clause-file_fits : goal.path-requires-in-Trunc-clause-file_fits
path-requires-in-Trunc-clause-file_fits c =
    let range = subst IsInRange c.in-Trunc.is c.requires in
    short_two [] c.in-Trunc.stamp c.in-Trunc.size (omega arith) (omega (arith, range.stamp_fits)) (omega (arith, range.size_fits))
