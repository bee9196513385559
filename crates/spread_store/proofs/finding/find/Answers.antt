use Rattle.std.proofs.Common.{◌≤◌, map, length, ap, arith}
use Rattle.std.specs.Prelude.{Ok, None}
use Rattle.spread_store.specs.Finding.{FindsIn}
use Rattle.spread_store.specs.Searches.{AsksOne}
use Rattle.spread_store.proofs.Lists.{length_map}
use Rattle.spread_store.proofs.Searching.{more_asked, all_asked}
use Rattle.spread_store.proofs.finding.find.Goals as goal

pub loop-store-preserved : goal.loop-store-preserved
loop-store-preserved g c =
    let old = map g.S.Store.stored c.args.stores.now in
    let mid = map g.S.Store.stored c.loop-store.stores in
    let new = map g.S.Store.stored c.find_in.new.stores in
    let name = c.args.name.now in
    let finds : FindsIn c.loop-store.store name mid new (Ok None) = rw c.in-Ok-None.field-0-is at c.in-Ok-None.ensures.finds in
    let asks : AsksOne c.loop-store.store name mid new (Ok None) = rw c.in-Ok-None.field-0-is at c.in-Ok-None.ensures.asks in
    more_asked name c.loop-store.store old mid new c.loop-store.invariant finds asks

pub returns-clause-finds : goal.returns-clause-finds
returns-clause-finds g c =
    let old = map g.S.Store.stored c.args.stores.now in
    let new = map g.S.Store.stored c.loop-store.stores in
    let k = length_map g.S.Store.stored c.args.stores.now in
    let e = ap length c.as_slice-store-end.ensures in
    let past = c.loop-store-test.false in
    let long : length old ≤ c.loop-store.store = omega (arith, k, e, past) in
    all_asked c.args.name.now c.loop-store.store old new long c.loop-store.invariant
