use Rattle.std.proofs.Common.{rules}
use Rattle.shape_check.proofs.Facts.{path_at_hand}
use Rattle.tree_check.proofs.OwnerLemmas.{owners_all, owners_more, two_hosts_all}
use Rattle.tree_check.proofs.owners.owners_of.Goals as goal

pub loop-path-preserved : goal.loop-path-preserved
loop-path-preserved c =
    owners_more c.args.paths.now c.loop-path.path-index c.path-item.result (path_at_hand c.args.paths.now c.loop-path.path-index c.path-item.result c.loop-path-test.true c.path-item.is) c.loop-path.owners c.note_at.new.owners c.loop-path.invariant (search rules)

pub returns-in_err-note_at-clause-err : goal.returns-in_err-note_at-clause-err
returns-in_err-note_at-clause-err c =
    two_hosts_all c.args.room c.args.paths.now c.loop-path.path-index c.path-item.result c.loop-path.owners c.from_residual.result (path_at_hand c.args.paths.now c.loop-path.path-index c.path-item.result c.loop-path-test.true c.path-item.is) c.loop-path.invariant (search rules)

pub returns-clause-ok : goal.returns-clause-ok
returns-clause-ok c = owners_all c.args.paths.now c.loop-path.path-index c.loop-path.owners (search rules) c.loop-path.invariant
