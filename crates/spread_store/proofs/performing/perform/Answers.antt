use Rattle.std.proofs.Common.{map, refl}
use Rattle.store_api.specs.declared.store.Trouble.TheVariants.{Fault, NoMemory}
use Rattle.spread_store.specs.Carrying.{settled, broken_off}
use Rattle.spread_store.specs.Doubting.{BreaksOff}
use Rattle.spread_store.specs.Joined.{spreading}
use Rattle.spread_store.proofs.performing.perform.Goals as goal

pub returns-in-Ok-clause-carries : goal.returns-in-Ok-clause-carries
returns-in-Ok-clause-carries g c =
    let sites = c.settle.new.sites in
    settled (spreading (map g.S.Store.stored sites.stores) sites.places sites.doubt) c.in-Ok.ensures.asks c.perform_surely.ensures.carries

pub returns-in-Err-Fault-clause-carries : goal.returns-in-Err-Fault-clause-carries
returns-in-Err-Fault-clause-carries g c =
    let was = c.args.sites.now in
    let sites = c.settle.new.sites in
    let broken : BreaksOff was.doubt (spreading (map g.S.Store.stored was.stores) was.places was.doubt) (spreading (map g.S.Store.stored sites.stores) sites.places sites.doubt) Fault = rw c.in-Err-Fault.field-0-is at c.in-Err-Fault.ensures.asks in
    broken_off Fault refl broken

pub returns-in-Err-NoMemory-clause-carries : goal.returns-in-Err-NoMemory-clause-carries
returns-in-Err-NoMemory-clause-carries g c =
    let was = c.args.sites.now in
    let sites = c.settle.new.sites in
    let broken : BreaksOff was.doubt (spreading (map g.S.Store.stored was.stores) was.places was.doubt) (spreading (map g.S.Store.stored sites.stores) sites.places sites.doubt) NoMemory = rw c.in-Err-NoMemory.field-0-is at c.in-Err-NoMemory.ensures.asks in
    broken_off NoMemory refl broken
