use Rattle.std.proofs.Common.{map, sym, subst}
use Rattle.std.specs.Prelude.{Ok}
use Rattle.spread_store.specs.Finding.{FindsIn}
use Rattle.spread_store.proofs.Searching.{found_in, find_failed}
use Rattle.spread_store.proofs.finding.find_in.Goals as goal

pub returns-in-Ok-clause-finds : goal.returns-in-Ok-clause-finds
returns-in-Ok-clause-finds g c =
    let old = map g.S.Store.stored c.args.stores.now in
    let new = map g.S.Store.stored c.ask.new.stores in
    subst (λ o. FindsIn c.args.store c.args.name.now old new (Ok o)) (sym c.number_told.ensures) (found_in old new c.args.store c.args.name.now c.in-Ok.answer c.in-Ok.ensures)

pub returns-in-Err-Fault-clause-finds : goal.returns-in-Err-Fault-clause-finds
returns-in-Err-Fault-clause-finds g c = find_failed (map g.S.Store.stored c.args.stores.now) (map g.S.Store.stored c.ask.new.stores) c.args.store c.args.name.now (rw c.in-Err-Fault.field-0-is at c.in-Err-Fault.ensures)
