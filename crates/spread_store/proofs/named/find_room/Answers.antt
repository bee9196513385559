use Rattle.std.proofs.Common.{map, None, sym, subst, ap, ◌∙◌}
use Rattle.std.specs.Prelude.{Ok}
use Rattle.store_api.specs.Step.{find_room}
use Rattle.store_api.specs.Effect.{number_or_absent}
use Rattle.store_api.specs.declared.step.Answer.TheVariants.{Absent}
use Rattle.spread_store.specs.Joined.{spreading}
use Rattle.spread_store.specs.Fits.{IsFit}
use Rattle.spread_store.specs.Performs.{Performs}
use Rattle.spread_store.proofs.Renames.{absent_then, found_then}
use Rattle.spread_store.proofs.named.find_room.Goals as goal

pub returns-in-Ok-None-clause-performs : goal.returns-in-Ok-None-clause-performs
returns-in-Ok-None-clause-performs g c =
    let old = map g.S.Store.stored c.args.sites.now.stores in
    let new = map g.S.Store.stored c.find.new.stores in
    let places = c.args.sites.now.places in
    let name = c.args.name.now in
    subst (λ d. IsFit (spreading old places d) → Performs (find_room name) (spreading old places d) (spreading new places d) (Ok Absent)) (sym c.requires.sure)
    (absent_then old new places name (rw c.in-Ok-None.field-0-is at c.in-Ok-None.ensures.finds)) c.requires.fit

pub returns-in-Ok-Some-clause-performs : goal.returns-in-Ok-Some-clause-performs
returns-in-Ok-Some-clause-performs g c =
    let old = map g.S.Store.stored c.args.sites.now.stores in
    let new = map g.S.Store.stored c.find.new.stores in
    let places = c.args.sites.now.places in
    let name = c.args.name.now in
    subst (λ d. IsFit (spreading old places d) → Performs (find_room name) (spreading old places d) (spreading new places d) (Ok c.number_or_absent.result)) (sym c.requires.sure)
    (subst (λ a. IsFit (spreading old places None) → Performs (find_room name) (spreading old places None) (spreading new places None) (Ok a)) (sym (c.number_or_absent.ensures ∙ ap number_or_absent c.number_of.ensures))
    (found_then old new places name c.in-Ok-Some.place (rw c.in-Ok-Some.field-0-is at c.in-Ok-Some.ensures.finds))) c.requires.fit
