use Rattle.std.proofs.Common.{map}
use Rattle.spread_store.proofs.Numbers.{more_numbered, item_at}
use Rattle.spread_store.proofs.opening.number_store.Goals as goal

pub loop-name-preserved : goal.loop-name-preserved
loop-name-preserved g c =
    more_numbered c.args.store c.args.names.now c.loop-name.name-index c.name-item.result (map g.S.Store.stored c.args.stores.now) (map g.S.Store.stored c.loop-name.stores) (map g.S.Store.stored c.number_one.new.stores)
    c.args.places.now c.loop-name.places c.number_one.new.places c.args.doubled c.loop-name.doubled c.in-Ok.doubled c.loop-name.invariant
    (item_at c.args.names.now c.loop-name.name-index c.name-item.result c.loop-name-test.true c.name-item.is) c.in-Ok.ensures
