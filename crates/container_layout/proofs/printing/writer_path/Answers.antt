use Rattle.std.proofs.Common.{arith}
use Rattle.container_layout.proofs.Short.{short_two}
use Rattle.container_layout.proofs.printing.writer_path.Goals as goal

pub path-requires-clause-file_fits : goal.path-requires-clause-file_fits
path-requires-clause-file_fits c = short_two c.args.word.now c.from.result c.args.writer c.requires.word_fits (omega arith) (omega arith)
