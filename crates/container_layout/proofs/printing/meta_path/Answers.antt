use Rattle.std.proofs.Common.{arith}
use Rattle.container_layout.proofs.Short.{short_meta}
use Rattle.container_layout.proofs.printing.meta_path.Goals as goal

pub path-requires-clause-file_fits : goal.path-requires-clause-file_fits
path-requires-clause-file_fits c =
    short_meta c.args.last c.args.bytes c.args.stamp c.from.result c.args.writer c.requires (omega arith) (omega arith)
