use Rattle.std.proofs.Common.{rules}
use Rattle.shape_check.proofs.Facts.{at_hand, looked_on, looked_same}
use Rattle.tree_check.specs.Rooms.{HasRooms}
use Rattle.check_program.proofs.Telling.{all_off_behind, said_all, said_more, said_none}
use Rattle.check_program.proofs.rooms.say_rooms.Goals as goal

pub loop-name-init : goal.loop-name-init
loop-name-init g c = record {
  looked = looked_same (g.S.Store.stored c.args.store.now);
  said = said_none c.args.marks c.args.names.now (g.S.Store.stored c.args.store.now) (HasRooms c.args.marks c.args.names.now) (g.O.Sink.taking c.args.out.now);
}

pub loop-name-preserved : goal.loop-name-preserved
loop-name-preserved g c =
    let old = g.S.Store.stored c.args.store.now in
    let mid = g.S.Store.stored c.loop-name.store in
    let new = g.S.Store.stored c.say_room.new.store in
    record {
      looked = looked_on old mid new c.loop-name.invariant.looked c.say_room.ensures.looked;
      said = said_more c.args.marks c.args.names.now old c.loop-name.name-index c.name-item.result mid (g.O.Sink.taking c.args.out.now) (g.O.Sink.taking c.loop-name.out) (g.O.Sink.taking c.say_room.new.out) c.loop-name.any c.in_ok-broken.broken c.either-any.result
          (at_hand c.args.names.now c.loop-name.name-index c.name-item.result c.loop-name-test.true c.name-item.is) c.loop-name.invariant.looked c.loop-name.invariant.said c.in_ok-broken.ensures.ok c.either-any.ensures;
    }

pub returns-in_err-broken-clause-err : goal.returns-in_err-broken-clause-err
returns-in_err-broken-clause-err g c =
    all_off_behind c.args.marks c.args.names.now (g.S.Store.stored c.args.store.now) c.loop-name.name-index c.name-item.result (g.S.Store.stored c.loop-name.store) (g.S.Store.stored c.say_room.new.store)
    (g.O.Sink.taking c.args.out.now) (g.O.Sink.taking c.loop-name.out) (g.O.Sink.taking c.say_room.new.out) c.loop-name.any c.from_residual.result
    (at_hand c.args.names.now c.loop-name.name-index c.name-item.result c.loop-name-test.true c.name-item.is) c.loop-name.invariant.looked c.loop-name.invariant.said (search rules)

pub returns-clause-ok : goal.returns-clause-ok
returns-clause-ok g c =
    said_all c.args.marks c.args.names.now (g.S.Store.stored c.args.store.now) c.loop-name.name-index (g.O.Sink.taking c.args.out.now) (g.O.Sink.taking c.loop-name.out) c.loop-name.any (search rules) c.loop-name.invariant.said
