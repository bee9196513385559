use Rattle.std.proofs.Common.{map, sym, subst}
use Rattle.std.specs.Prelude.{Ok}
use Rattle.spread_store.specs.Joined.{held_by}
use Rattle.spread_store.specs.Finding.{Finds}
use Rattle.spread_store.specs.Numbered.{NumbersOne}
use Rattle.std.specs.Prelude.{Some, None}
use Rattle.spread_store.proofs.Numbers.{adds_here, adds_elsewhere}
use Rattle.spread_store.proofs.opening.number_one.Goals as goal

pub returns-in-Ok-None : goal.returns-in-Ok-None
returns-in-Ok-None g c =
    let old = map g.S.Store.stored c.args.stores.now in
    let new = map g.S.Store.stored c.find.new.stores in
    let f : Finds c.args.name.now old new (Ok None) = rw c.in-Ok-None.field-0-is at c.in-Ok-None.ensures.finds in
    (f.0, λ tell done alone fresh below there b. absurd (f.1 tell (record { store = c.args.store; room = there.0 }) there.1.room there.1.there there.1.named))

pub returns-in-Ok : goal.returns-in-Ok
returns-in-Ok g c =
    let old = map g.S.Store.stored c.args.stores.now in
    let new = map g.S.Store.stored c.find.new.stores in
    let p = c.in-Ok-Some.place in
    let f : Finds c.args.name.now old new (Ok (Some p)) = rw c.in-Ok-Some.field-0-is at c.in-Ok-Some.ensures.finds in
    subst (λ more. NumbersOne c.args.store c.args.name.now old new c.args.places.now more c.args.doubled (Ok c.args.doubled)) (sym c.in-Ok.ensures.ok)
    (f.0, λ tell done alone fresh below there b. adds_here (held_by old) c.args.store c.args.name.now done c.args.places.now c.args.doubled alone fresh p (f.1 tell) (f.2 tell) b c.if-place-store.false below)

pub returns-then-place-store : goal.returns-then-place-store
returns-then-place-store g c =
    let old = map g.S.Store.stored c.args.stores.now in
    let new = map g.S.Store.stored c.find.new.stores in
    let places = c.args.places.now in
    let p = c.in-Ok-Some.place in
    let f : Finds c.args.name.now old new (Ok (Some p)) = rw c.in-Ok-Some.field-0-is at c.in-Ok-Some.ensures.finds in
    subst (λ next. NumbersOne c.args.store c.args.name.now old new places places c.args.doubled (Ok next)) (sym c.least.ensures)
    (f.0, λ tell done alone fresh below there b. adds_elsewhere (held_by old) c.args.store c.args.name.now done places c.args.doubled alone fresh p (f.1 tell) (f.2 tell) b c.if-place-store.true there.0 there.1)
