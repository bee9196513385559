use Rattle.std.proofs.Common.{rules, arith, take}
use Rattle.tree_check.proofs.AloneLemmas.{same_pieces}
use Rattle.tree_check.proofs.FlatLemmas.{same_sum}
use Rattle.tree_check.proofs.alone.are_first.Goals as goal

pub returns : goal.returns
returns c = λ yes.
    same_sum c.args.cover.now c.args.landed.now c.sum_of-sum.result.bytes c.sum_of-sum.result.stamp c.args.pieces.now (omega arith) c.sum_of-sum.ensures.bytes c.sum_of-sum.ensures.stamp (search rules) (search rules)
    (same_pieces (take c.args.cover.now.count c.args.landed.now) c.args.pieces.now c.requires.runs (c.are_entries.ensures yes))
