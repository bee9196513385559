use Rattle.std.proofs.Common.{rules}
use Rattle.tree_laws.specs.Listable.{IsListable}
use Rattle.shape_check.proofs.Facts.{looked_same}
use Rattle.tree_check.proofs.RoomLemmas.{any_fails, tree_fails, tree_right}
use Rattle.tree_check.proofs.checking.check_all.Goals as goal

pub returns-in_err-names-clause-err : goal.returns-in_err-names-clause-err
returns-in_err-names-clause-err g c =
    let old = g.S.Store.stored c.args.store.now in
    any_fails IsListable old old (g.S.Store.stored c.rooms.new.store) c.from_residual.result (looked_same old) (search rules)

pub returns-in_err-marks-clause-err : goal.returns-in_err-marks-clause-err
returns-in_err-marks-clause-err g c =
    any_fails IsListable (g.S.Store.stored c.args.store.now) (g.S.Store.stored c.rooms.new.store) (g.S.Store.stored c.find_room.new.store) c.from_residual-in_err-marks.result c.rooms.ensures.looked (search rules)

pub returns-clause-ok : goal.returns-clause-ok
returns-clause-ok g c =
    tree_right c.as_slice.result.now c.in_ok-marks.marks (g.S.Store.stored c.args.store.now) (g.S.Store.stored c.rooms.new.store) (g.S.Store.stored c.find_room.new.store)
    (rw c.as_slice.ensures c.in_ok-names.ensures.ok) c.rooms.ensures.looked (rw c.marks_name.ensures at c.in_ok-marks.ensures.ok) c.find_room.ensures.looked c.check_rooms.result c.check_rooms.ensures.ok

pub returns-clause-err : goal.returns-clause-err
returns-clause-err g c =
    tree_fails c.as_slice.result.now c.in_ok-marks.marks (g.S.Store.stored c.args.store.now) (g.S.Store.stored c.rooms.new.store) (g.S.Store.stored c.find_room.new.store)
    (rw c.as_slice.ensures c.in_ok-names.ensures.ok) c.rooms.ensures.looked (rw c.marks_name.ensures at c.in_ok-marks.ensures.ok) c.find_room.ensures.looked (g.S.Store.stored c.check_rooms.new.store) c.check_rooms.result c.check_rooms.ensures.err
