use Rattle.std.proofs.Common.{rules}
use Rattle.tree_check.specs.Droppings.{WasKept}
use Rattle.tree_check.proofs.DroppingLemmas.{was_kept}
use Rattle.tree_check.proofs.droppings.take_dropping.Goals as goal

pub returns-in-Some-clause-orderly : goal.returns-in-Some-clause-orderly
returns-in-Some-clause-orderly g c =
    let was : WasKept c.args.host c.args.writer c.args.kept.now c.in-Some.dropping = search rules in
    (was_kept c.args.place.now c.args.kept.now c.args.host c.args.writer c.in-Some.dropping (g.S.Store.stored c.args.store.now) was c.requires).0

pub returns-in-Some-clause-ok : goal.returns-in-Some-clause-ok
returns-in-Some-clause-ok g c =
    let was : WasKept c.args.host c.args.writer c.args.kept.now c.in-Some.dropping = search rules in
    (was_kept c.args.place.now c.args.kept.now c.args.host c.args.writer c.in-Some.dropping (g.S.Store.stored c.args.store.now) was c.requires).1
