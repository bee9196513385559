use Rattle.std.proofs.Common.{map, sym, subst}
use Rattle.std.specs.Prelude.{Ok}
use Rattle.store_api.specs.Step.{rename_room}
use Rattle.store_api.specs.declared.step.Answer.TheVariants.{TargetThere}
use Rattle.spread_store.specs.Joined.{spreading}
use Rattle.spread_store.specs.Fits.{IsFit}
use Rattle.spread_store.specs.Performs.{Performs}
use Rattle.spread_store.proofs.Renames.{rename_then, taken_then}
use Rattle.spread_store.proofs.named.rename_room.Goals as goal

pub returns-in-Ok-None-clause-performs : goal.returns-in-Ok-None-clause-performs
returns-in-Ok-None-clause-performs g c =
    let old = map g.S.Store.stored c.args.sites.now.stores in
    let mid = map g.S.Store.stored c.find.new.stores in
    let new = map g.S.Store.stored c.ask.new.stores in
    let places = c.args.sites.now.places in
    subst (λ d. IsFit (spreading old places d) → Performs (rename_room c.args.number c.args.to.now) (spreading old places d) (spreading new places d) c.ask.result) (sym c.requires.sure)
    (λ fit. rename_then old mid new places c.args.number c.in-Some.place c.args.to.now c.ask.result (sym c.in-Some.ensures) (rw c.in-Ok-None.field-0-is at c.in-Ok-None.ensures.finds) fit c.ask.ensures)
    c.requires.fit

pub returns-in-Ok-Some-clause-performs : goal.returns-in-Ok-Some-clause-performs
returns-in-Ok-Some-clause-performs g c =
    let old = map g.S.Store.stored c.args.sites.now.stores in
    let new = map g.S.Store.stored c.find.new.stores in
    let places = c.args.sites.now.places in
    subst (λ d. IsFit (spreading old places d) → Performs (rename_room c.args.number c.args.to.now) (spreading old places d) (spreading new places d) (Ok TargetThere)) (sym c.requires.sure)
    (λ fit. taken_then old new places c.args.number c.in-Some.place c.in-Ok-Some.field-0-0 c.args.to.now (sym c.in-Some.ensures) (rw c.in-Ok-Some.field-0-is at c.in-Ok-Some.ensures.finds) fit)
    c.requires.fit
