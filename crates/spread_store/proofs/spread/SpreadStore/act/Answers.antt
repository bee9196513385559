use Rattle.std.proofs.Common.{map, subst}
use Rattle.std.specs.Prelude.{Ok, Err}
use Rattle.store_api.specs.Step.{step_of}
use Rattle.store_api.specs.declared.store.Trouble.TheVariants.{Fault, NoMemory}
use Rattle.spread_store.specs.Carrying.{Carries}
use Rattle.spread_store.specs.Joined.{Spreading, spreading}
use Rattle.spread_store.specs.Shown.{spread_of}
use Rattle.spread_store.proofs.spread.SpreadStore.act.Goals as goal

pub returns-in-Ok-clause-carries : goal.returns-in-Ok-clause-carries
returns-in-Ok-clause-carries g c =
    let sites = c.perform.new.sites in
    let new : Spreading = spreading (map g.S.Store.stored sites.stores) sites.places sites.doubt in
    subst (λ v. Carries (step_of c.args.step.now) (spread_of v) new (Ok c.in-Ok.answer)) c.self.view_is c.in-Ok.ensures.carries

pub returns-in-Err-Fault-clause-carries : goal.returns-in-Err-Fault-clause-carries
returns-in-Err-Fault-clause-carries g c =
    let sites = c.perform.new.sites in
    let new : Spreading = spreading (map g.S.Store.stored sites.stores) sites.places sites.doubt in
    subst (λ v. Carries (step_of c.args.step.now) (spread_of v) new (Err Fault)) c.self.view_is (rw c.in-Err-Fault.field-0-is at c.in-Err-Fault.ensures.carries)

pub returns-in-Err-NoMemory-clause-carries : goal.returns-in-Err-NoMemory-clause-carries
returns-in-Err-NoMemory-clause-carries g c =
    let sites = c.perform.new.sites in
    let new : Spreading = spreading (map g.S.Store.stored sites.stores) sites.places sites.doubt in
    subst (λ v. Carries (step_of c.args.step.now) (spread_of v) new (Err NoMemory)) c.self.view_is (rw c.in-Err-NoMemory.field-0-is at c.in-Err-NoMemory.ensures.carries)
