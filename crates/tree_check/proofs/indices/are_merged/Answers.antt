use Rattle.std.proofs.Common.{rules}
use Rattle.std.proofs.lemmas.Slice.Eq.{slice_eq-Decides}
use Rattle.tree_check.proofs.IndexLemmas.{merged_tells}
use Rattle.tree_check.proofs.indices.are_merged.Goals as goal

pub returns-clause-ok : goal.returns-clause-ok
returns-clause-ok c =
    merged_tells c.args.lists c.args.pieces.now c.in_ok-merged.merged c.eq.result c.requires (search rules)
    (rw c.as_slice.ensures.value at (slice_eq-Decides (λ a b. search rules) c.as_slice.result.now c.args.pieces.now c.eq.result c.eq.ensures))
