use Rattle.std.proofs.Common.{rules}
use Rattle.tree_check.proofs.DroppingLemmas.{beside_all, between_one}
use Rattle.tree_check.proofs.droppings.check_beside.Goals as goal

pub returns-clause-ok : goal.returns-clause-ok
returns-clause-ok c = beside_all c.args.writer c.args.landed.now c.in-Some.first.now c.last_of-last.result c.args.truncs.now c.check_between.result (search rules) c.requires c.last_of-last.ensures c.check_between.ensures.ok

pub returns-clause-err : goal.returns-clause-err
returns-clause-err c = between_one c.args.room c.args.host c.args.writer c.args.landed.now c.in-Some.first.now c.last_of-last.result c.args.truncs.now c.check_between.result (search rules) c.last_of-last.ensures c.check_between.ensures.err
