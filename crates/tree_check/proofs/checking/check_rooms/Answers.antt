use Rattle.std.proofs.Common.{rules}
use Rattle.shape_check.proofs.Facts.{at_hand, looked_on}
use Rattle.tree_check.proofs.RoomLemmas.{room_fails_all, rooms_all, rooms_more}
use Rattle.tree_check.proofs.checking.check_rooms.Goals as goal

pub loop-name-preserved : goal.loop-name-preserved
loop-name-preserved g c =
    let old = g.S.Store.stored c.args.store.now in
    let mid = g.S.Store.stored c.loop-name.store in
    let new = g.S.Store.stored c.check_first.new.store in
    record {
      looked = looked_on old mid new c.loop-name.invariant.looked c.check_first.ensures.looked;
      right = rooms_more c.args.marks c.args.names.now c.loop-name.name-index c.name-item.result old mid (at_hand c.args.names.now c.loop-name.name-index c.name-item.result c.loop-name-test.true c.name-item.is) c.loop-name.invariant.looked c.loop-name.invariant.right (search rules);
    }

pub returns-in_err-check_first-clause-err : goal.returns-in_err-check_first-clause-err
returns-in_err-check_first-clause-err g c =
    room_fails_all c.args.marks c.args.names.now c.loop-name.name-index c.name-item.result (g.S.Store.stored c.args.store.now) (g.S.Store.stored c.loop-name.store) (g.S.Store.stored c.check_first.new.store) c.from_residual.result
    (at_hand c.args.names.now c.loop-name.name-index c.name-item.result c.loop-name-test.true c.name-item.is) c.loop-name.invariant.looked (search rules)

pub returns-clause-ok : goal.returns-clause-ok
returns-clause-ok g c = rooms_all c.args.marks c.args.names.now c.loop-name.name-index (g.S.Store.stored c.args.store.now) (search rules) c.loop-name.invariant.right
