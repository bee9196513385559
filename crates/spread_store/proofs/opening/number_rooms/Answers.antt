use Rattle.std.proofs.Common.{◌≤◌, map, length, subst, ap, arith}
use Rattle.std.specs.Prelude.{Ok}
use Rattle.spread_store.specs.Numbered.{NumbersStore}
use Rattle.spread_store.proofs.Lists.{length_map}
use Rattle.spread_store.proofs.Numbers.{HasAll, more_all, all_fit, all_doubled}
use Rattle.spread_store.proofs.opening.number_rooms.Goals as goal

pub loop-store-preserved : goal.loop-store-preserved
loop-store-preserved g c =
    let old = map g.S.Store.stored c.args.stores.now in
    let mid = map g.S.Store.stored c.loop-store.stores in
    let late = map g.S.Store.stored c.names_in.new.stores in
    let new = map g.S.Store.stored c.number_store.new.stores in
    more_all c.loop-store.store c.in-Ok.names old mid late new c.loop-store.places c.number_store.new.places c.loop-store.doubled c.in-Ok-number_store.doubled c.loop-store.invariant c.in-Ok.ensures.gathers
    (subst (λ names. NumbersStore c.loop-store.store names late new c.loop-store.places c.number_store.new.places c.loop-store.doubled (Ok c.in-Ok-number_store.doubled)) c.as_slice.ensures c.in-Ok-number_store.ensures)

pub returns-in-None : goal.returns-in-None
returns-in-None g c =
    let old = map g.S.Store.stored c.args.stores.now in
    let new = map g.S.Store.stored c.loop-store.stores in
    let k = length_map g.S.Store.stored c.args.stores.now in
    let e = ap length c.as_slice-store-end.ensures in
    let past = c.loop-store-test.false in
    let long : length old ≤ c.loop-store.store = omega (arith, k, e, past) in
    all_fit c.loop-store.store old new c.loop-store.places long (subst (λ d. HasAll c.loop-store.store old new c.loop-store.places d) c.in-None.is c.loop-store.invariant)

pub returns-in-Some : goal.returns-in-Some
returns-in-Some g c =
    let old = map g.S.Store.stored c.args.stores.now in
    let new = map g.S.Store.stored c.loop-store.stores in
    let k = length_map g.S.Store.stored c.args.stores.now in
    let e = ap length c.as_slice-store-end.ensures in
    let past = c.loop-store-test.false in
    let long : length old ≤ c.loop-store.store = omega (arith, k, e, past) in
    all_doubled c.loop-store.store old new c.loop-store.places c.in-Some.name long (subst (λ d. HasAll c.loop-store.store old new c.loop-store.places d) c.in-Some.is c.loop-store.invariant)
