use Rattle.std.proofs.Common.{map, sym, subst}
use Rattle.store_api.specs.Step.{step_of}
use Rattle.spread_store.specs.Joined.{spreading}
use Rattle.spread_store.specs.Fits.{IsFit}
use Rattle.spread_store.specs.Performs.{Performs}
use Rattle.spread_store.proofs.Within.{within_acts}
use Rattle.spread_store.proofs.sites.within.Goals as goal

pub returns-clause-performs : goal.returns-clause-performs
returns-clause-performs g c =
    let step = step_of c.args.step.now in
    let old = map g.S.Store.stored c.args.sites.now.stores in
    let new = map g.S.Store.stored c.ask_in.new.stores in
    let places = c.args.sites.now.places in
    subst (λ d. IsFit (spreading old places d) → Performs step (spreading old places d) (spreading new places d) c.ask_in.result) (sym c.requires.sure)
    (λ fit. within_acts old new places c.args.number c.in-Some.place step c.ask_in.result (sym c.in-Some.ensures) c.requires.number fit c.ask_in.ensures)
    c.requires.fit
