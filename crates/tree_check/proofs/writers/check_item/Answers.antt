use Rattle.std.proofs.Common.{rules, sym, ◌∙◌}
use Rattle.tree_check.proofs.KnownLemmas.{found_at, right_at, right_none}
use Rattle.tree_check.proofs.writers.check_item.Goals as goal

pub returns-in-Some-clause-ok : goal.returns-in-Some-clause-ok
returns-in-Some-clause-ok g c =
    right_at c.args.place.now c.args.owners.now c.args.truncs.now c.args.path.now c.in-Some.item (g.S.Store.stored c.args.store.now) c.check_kind.result (search rules) c.check_kind.ensures.ok

pub returns-in-None-clause-ok : goal.returns-in-None-clause-ok
returns-in-None-clause-ok g c = right_none c.args.place.now c.args.owners.now c.args.truncs.now c.args.path.now (g.S.Store.stored c.args.store.now) (λ it at. sym c.in-None.is ∙ c.read.ensures.only it at)

pub returns-in-Some-clause-named : goal.returns-in-Some-clause-named
returns-in-Some-clause-named g c = found_at c.args.place.now c.args.owners.now c.args.truncs.now c.args.path.now c.in-Some.item (g.S.Store.stored c.args.store.now) c.check_kind.result (search rules) c.check_kind.ensures.named
