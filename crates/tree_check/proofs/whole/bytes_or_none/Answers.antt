use Rattle.std.proofs.Common.{ℕ, Option, subst}
use Rattle.tree_check.proofs.WholeLemmas.{ShowsLength, whole_fails, whole_read}
use Rattle.tree_check.proofs.whole.bytes_or_none.Goals as goal

pub returns-in-Some-clause-ok : goal.returns-in-Some-clause-ok
returns-in-Some-clause-ok g c =
    whole_read c.args.place.now c.args.path.now c.in-Some.size (g.S.Store.stored c.args.store.now) (g.S.Store.stored c.length.new.store) c.whole.result c.length.ensures.looked
    (subst (λ (found : Option ℕ). ShowsLength (g.S.Store.stored c.args.store.now) c.args.place.now.number c.args.path.now found) c.in-Some.is c.in_ok-size.ensures.ok) c.whole.ensures.ok

pub returns-in-Some-clause-err : goal.returns-in-Some-clause-err
returns-in-Some-clause-err g c =
    whole_fails c.args.place.now c.args.path.now c.in-Some.size (g.S.Store.stored c.args.store.now) (g.S.Store.stored c.length.new.store) (g.S.Store.stored c.whole.new.store) c.whole.result c.length.ensures.looked
    (subst (λ (found : Option ℕ). ShowsLength (g.S.Store.stored c.args.store.now) c.args.place.now.number c.args.path.now found) c.in-Some.is c.in_ok-size.ensures.ok) c.whole.ensures.err
