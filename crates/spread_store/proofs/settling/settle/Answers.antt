use Rattle.std.proofs.Common.{map, None, ◌++◌, ◌∷◌, [], refl, sym, subst}
use Rattle.spread_store.specs.Joined.{spreading}
use Rattle.spread_store.specs.Fits.{IsFit}
use Rattle.spread_store.specs.Performs.{Stays}
use Rattle.spread_store.proofs.Doubts.{settled_made, settled_unmade}
use Rattle.spread_store.proofs.settling.settle.Goals as goal

pub returns-in-Ok-None-clause-settles : goal.returns-in-Ok-None-clause-settles
returns-in-Ok-None-clause-settles g c =
    let old = map g.S.Store.stored c.args.sites.now.stores in
    let new = map g.S.Store.stored c.find_in.new.stores in
    let places = c.args.sites.now.places in (
      subst (λ d. IsFit (spreading old places d) → Stays (spreading old places d) (spreading new places None)) (sym c.in-Some.is)
          (settled_unmade old new places c.in-Some.doubt (rw c.in-Ok-None.field-0-is at c.in-Ok-None.ensures.finds)) c.requires,
      refl,
    )

pub returns-in-Ok-clause-settles : goal.returns-in-Ok-clause-settles
returns-in-Ok-clause-settles g c =
    let old = map g.S.Store.stored c.args.sites.now.stores in
    let new = map g.S.Store.stored c.find_in.new.stores in
    let places = c.args.sites.now.places in (
      subst (λ more. Stays (spreading old places c.args.sites.now.doubt) (spreading new more None)) (sym c.in-Ok.ensures.ok)
          (subst (λ d. IsFit (spreading old places d) → Stays (spreading old places d) (spreading new (places ++ record { store = c.in-Some.doubt.store; room = c.in-Ok-Some.room } ∷ []) None)) (sym c.in-Some.is)
          (settled_made old new places c.in-Some.doubt c.in-Ok-Some.room (rw c.in-Ok-Some.field-0-is at c.in-Ok-Some.ensures.finds)) c.requires),
      refl,
    )
