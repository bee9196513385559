use Rattle.std.proofs.Common.{map, sym, subst, ap, ◌∙◌}
use Rattle.std.specs.Prelude.{Ok}
use Rattle.store_api.specs.Step.{make_room}
use Rattle.store_api.specs.declared.step.Answer.TheVariants.{Old}
use Rattle.spread_store.specs.Joined.{spreading}
use Rattle.spread_store.specs.Fits.{IsFit}
use Rattle.spread_store.specs.Numbering.{or_zero, place_number}
use Rattle.spread_store.specs.Performs.{Performs}
use Rattle.spread_store.proofs.Added.{old_then}
use Rattle.spread_store.proofs.making.make_room.Goals as goal

pub returns-in-Ok-Some-clause-performs : goal.returns-in-Ok-Some-clause-performs
returns-in-Ok-Some-clause-performs g c =
    let old = map g.S.Store.stored c.args.sites.now.stores in
    let new = map g.S.Store.stored c.find.new.stores in
    let places = c.args.sites.now.places in
    let name = c.args.name.now in
    let folders = c.args.folders.now in
    let files = c.args.files.now in
    subst (λ k. Performs (make_room name folders files) (spreading old places c.args.sites.now.doubt) (spreading new places c.args.sites.now.doubt) (Ok (Old k))) (sym (c.or_zero.ensures ∙ ap or_zero c.number_of.ensures))
    (subst (λ d. IsFit (spreading old places d) → Performs (make_room name folders files) (spreading old places d) (spreading new places d) (Ok (Old (or_zero (place_number places c.in-Ok-Some.place))))) (sym c.requires.sure)
    (λ fit. old_then old new places c.in-Ok-Some.place name folders files (rw c.in-Ok-Some.field-0-is at c.in-Ok-Some.ensures.finds) fit) c.requires.fit)
