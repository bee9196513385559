use Rattle.std.proofs.Common.{map, refl, sym, subst, ap, ◌∙◌}
use Rattle.std.specs.Prelude.{Ok, Err}
use Rattle.store_api.specs.declared.store.Trouble.TheVariants.{NoMemory}
use Rattle.store_api.specs.Step.{rooms}
use Rattle.store_api.specs.Names.{in_byte_order}
use Rattle.store_api.specs.declared.step.Answer.TheVariants.{Names}
use Rattle.spread_store.specs.Joined.{spreading}
use Rattle.spread_store.specs.Fits.{IsFit}
use Rattle.spread_store.specs.Performs.{Performs}
use Rattle.spread_store.proofs.Gathers.{names_then}
use Rattle.spread_store.proofs.listing.list_rooms.Goals as goal

pub returns-in-Ok-in_byte_order-clause-performs : goal.returns-in-Ok-in_byte_order-clause-performs
returns-in-Ok-in_byte_order-clause-performs g c =
    let old = map g.S.Store.stored c.args.sites.now.stores in
    let new = map g.S.Store.stored c.all_names.new.stores in
    let places = c.args.sites.now.places in
    subst (λ l. Performs rooms (spreading old places c.args.sites.now.doubt) (spreading new places c.args.sites.now.doubt) (Ok (Names l))) (sym (c.in-Ok-in_byte_order.ensures ∙ ap in_byte_order c.as_slice.ensures))
    (subst (λ d. IsFit (spreading old places d) → Performs rooms (spreading old places d) (spreading new places d) (Ok (Names (in_byte_order c.in-Ok.names)))) (sym c.requires.sure)
    (λ fit. names_then old new places c.in-Ok.names c.in-Ok.ensures.gathers fit) c.requires.fit)

pub returns-in-Ok-clause-carries : goal.returns-in-Ok-clause-carries
returns-in-Ok-clause-carries g c = record { same = record { places = refl; doubt = refl }; names = Err NoMemory; asked = tt; told_so = refl }
