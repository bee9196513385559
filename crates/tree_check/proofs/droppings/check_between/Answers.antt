use Rattle.std.proofs.Common.{rules}
use Rattle.tree_check.proofs.DroppingLemmas.{inside_found, outside_all, outside_next, trunc_at, trunc_at_hand}
use Rattle.tree_check.proofs.droppings.check_between.Goals as goal

pub returns-then-is_inside-clause-err : goal.returns-then-is_inside-clause-err
returns-then-is_inside-clause-err c =
    let i = c.loop-trunc.trunc-index in
    rw c.index_of.ensures (inside_found c.args.room c.args.host c.args.writer c.args.first c.args.last c.args.truncs.now i (trunc_at c.args.truncs.now i) c.is_inside.result (trunc_at_hand c.args.truncs.now i c.loop-trunc-test.true) c.if-is_inside.true c.is_inside.ensures)

pub loop-trunc-preserved : goal.loop-trunc-preserved
loop-trunc-preserved c =
    let i = c.loop-trunc.trunc-index in
    outside_next c.args.first c.args.last c.args.truncs.now i (trunc_at c.args.truncs.now i) c.is_inside.result (trunc_at_hand c.args.truncs.now i c.loop-trunc-test.true) c.if-is_inside.false c.is_inside.ensures c.loop-trunc.invariant

pub returns-clause-ok : goal.returns-clause-ok
returns-clause-ok c = outside_all c.args.first c.args.last c.args.truncs.now c.loop-trunc.trunc-index (search rules) c.loop-trunc.invariant
