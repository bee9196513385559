use Rattle.std.proofs.Common.{rules}
use Rattle.shape_check.proofs.Facts.{path_at_hand}
use Rattle.tree_check.proofs.TruncLemmas.{truncs_all, truncs_more, two_truncs_all}
use Rattle.tree_check.proofs.truncates.truncs_of.Goals as goal

pub loop-path-preserved : goal.loop-path-preserved
loop-path-preserved c =
    truncs_more c.args.paths.now c.loop-path.path-index c.path-item.result (path_at_hand c.args.paths.now c.loop-path.path-index c.path-item.result c.loop-path-test.true c.path-item.is) c.loop-path.truncs c.add_at.new.truncs c.loop-path.invariant (search rules)

pub returns-in_err-add_at-clause-err : goal.returns-in_err-add_at-clause-err
returns-in_err-add_at-clause-err c =
    two_truncs_all c.args.room c.args.paths.now c.loop-path.path-index c.path-item.result c.loop-path.truncs c.from_residual.result (path_at_hand c.args.paths.now c.loop-path.path-index c.path-item.result c.loop-path-test.true c.path-item.is) c.loop-path.invariant (search rules)

pub returns-clause-ok : goal.returns-clause-ok
returns-clause-ok c = truncs_all c.args.paths.now c.loop-path.path-index c.loop-path.truncs (search rules) c.loop-path.invariant
