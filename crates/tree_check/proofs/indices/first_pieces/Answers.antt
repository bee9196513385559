use Rattle.tree_check.proofs.FlatLemmas.{first_have_pieces}
use Rattle.tree_check.proofs.indices.first_pieces.Goals as goal

pub of_writer-requires : goal.of_writer-requires
of_writer-requires c = first_have_pieces c.args.cover.now.writer c.args.cover.now.count c.args.landed.now c.requires
