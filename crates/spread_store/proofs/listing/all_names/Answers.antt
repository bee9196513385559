use Rattle.std.proofs.Common.{◌≤◌, ◌+◌, ◌++◌, map, length, sym, subst, ap, ◌∙◌, arith}
use Rattle.spread_store.proofs.Lists.{length_map}
use Rattle.spread_store.proofs.Gathers.{HasGathered, more_gathered, all_gathered, asked_rooms, asked_until}
use Rattle.spread_store.proofs.listing.all_names.Goals as goal

pub loop-store-preserved : goal.loop-store-preserved
loop-store-preserved g c =
    let old = map g.S.Store.stored c.args.stores.now in
    let mid = map g.S.Store.stored c.loop-store.stores in
    let new = map g.S.Store.stored c.names_in.new.stores in
    subst (λ l. HasGathered (c.loop-store.store + 1) old new l) (sym (c.in-Ok-add_all.ensures ∙ ap (λ l. c.loop-store.names ++ l) c.as_slice.ensures))
    (more_gathered c.loop-store.store old mid new c.loop-store.names c.in-Ok.more c.loop-store.invariant c.in-Ok.ensures.gathers c.in-Ok.ensures.asks)

pub returns-clause-gathers : goal.returns-clause-gathers
returns-clause-gathers g c =
    let old = map g.S.Store.stored c.args.stores.now in
    let new = map g.S.Store.stored c.loop-store.stores in
    let k = length_map g.S.Store.stored c.args.stores.now in
    let e = ap length c.as_slice-store-end.ensures in
    let past = c.loop-store-test.false in
    let long : length old ≤ c.loop-store.store = omega (arith, k, e, past) in
    all_gathered c.loop-store.store old new c.loop-store.names long c.loop-store.invariant

pub returns-clause-asks : goal.returns-clause-asks
returns-clause-asks g c =
    let old = map g.S.Store.stored c.args.stores.now in
    let new = map g.S.Store.stored c.loop-store.stores in
    let k = length_map g.S.Store.stored c.args.stores.now in
    let e = ap length c.as_slice-store-end.ensures in
    let past = c.loop-store-test.false in
    let long : length old ≤ c.loop-store.store = omega (arith, k, e, past) in
    asked_rooms c.loop-store.store old new c.loop-store.names long c.loop-store.invariant

pub returns-in-Err-Fault-clause-asks : goal.returns-in-Err-Fault-clause-asks
returns-in-Err-Fault-clause-asks g c =
    asked_until c.loop-store.store (map g.S.Store.stored c.args.stores.now) (map g.S.Store.stored c.loop-store.stores) (map g.S.Store.stored c.names_in.new.stores) c.loop-store.names c.loop-store.invariant
    (rw c.in-Err-Fault.field-0-is at c.in-Err-Fault.ensures.asks)
