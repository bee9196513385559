use Rattle.std.proofs.Common.{rules, refl}
use Rattle.shape_check.specs.Files.{IsPlaced}
use Rattle.shape_check.proofs.Facts.{looked_same}
use Rattle.tree_check.specs.Known.{IsOpenAt}
use Rattle.tree_check.proofs.Failing.{all_fail_for}
use Rattle.tree_check.proofs.WriterLemmas.{accounted_none, accounted_there, unaccounted}
use Rattle.tree_check.proofs.writers.check_accounted.Goals as goal

pub returns-then-landed-eq0-clause-ok : goal.returns-then-landed-eq0-clause-ok
returns-then-landed-eq0-clause-ok g c = accounted_none c.args.place.now c.args.host c.args.writer c.args.landed (g.S.Store.stored c.args.store.now) c.if-landed-eq0.true

pub returns-in_err-has-clause-err : goal.returns-in_err-has-clause-err
returns-in_err-has-clause-err g c =
    let old = g.S.Store.stored c.args.store.now in
    all_fail_for (IsOpenAt c.args.place.now c.args.host c.args.writer c.args.landed) (IsPlaced c.args.place.now) old old (g.S.Store.stored c.has_file.new.store) c.from_residual.result (λ tree seen at. at.placed) (looked_same old) (search rules)

pub returns-then-has-clause-ok : goal.returns-then-has-clause-ok
returns-then-has-clause-ok g c =
    accounted_there c.args.place.now c.args.host c.args.writer c.args.landed (g.S.Store.stored c.args.store.now) c.in_ok-has.has (rw c.open_of.ensures at c.in_ok-has.ensures.ok) c.if-has.true

pub returns-clause-err : goal.returns-clause-err
returns-clause-err g c =
    rw c.index_of.ensures (unaccounted c.args.place.now c.args.host c.args.writer c.args.landed (g.S.Store.stored c.args.store.now) (g.S.Store.stored c.has_file.new.store) c.in_ok-has.has (λ none. search rules) (rw c.open_of.ensures at c.in_ok-has.ensures.ok) c.if-has.false)

pub returns-clause-named : goal.returns-clause-named
returns-clause-named g c = rw c.index_of.ensures (refl, refl)
