use Rattle.std.proofs.Common.{map, sym, subst}
use Rattle.std.specs.Prelude.{Ok}
use Rattle.spread_store.specs.Listing.{GathersIn}
use Rattle.spread_store.proofs.Gathers.{gathered_in, gather_failed}
use Rattle.spread_store.proofs.listing.names_in.Goals as goal

pub returns-in-Ok-clause-gathers : goal.returns-in-Ok-clause-gathers
returns-in-Ok-clause-gathers g c =
    let old = map g.S.Store.stored c.args.stores.now in
    let new = map g.S.Store.stored c.ask.new.stores in
    subst (λ l. GathersIn c.args.store old new (Ok l)) (sym c.names_told.ensures) (gathered_in old new c.args.store c.in-Ok.answer c.in-Ok.ensures)

pub returns-in-Err-Fault-clause-gathers : goal.returns-in-Err-Fault-clause-gathers
returns-in-Err-Fault-clause-gathers g c = gather_failed (map g.S.Store.stored c.args.stores.now) (map g.S.Store.stored c.ask.new.stores) c.args.store (rw c.in-Err-Fault.field-0-is at c.in-Err-Fault.ensures)
