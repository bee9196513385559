use Rattle.std.proofs.Common.{arith}
use Rattle.container_layout.proofs.Short.{short_one}
use Rattle.container_layout.proofs.printing.flat_path.Goals as goal

pub path-requires-clause-file_fits : goal.path-requires-clause-file_fits
path-requires-clause-file_fits c = short_one c.args.word.now c.args.id c.requires (omega arith)
