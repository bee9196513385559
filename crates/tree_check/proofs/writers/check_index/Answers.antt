use Rattle.std.proofs.Common.{rules, sym, ◌∙◌}
use Rattle.shape_check.specs.Files.{IsPlaced}
use Rattle.shape_check.proofs.Facts.{all_found_by, looked_same}
use Rattle.mount_model.specs.Paths.{index_path}
use Rattle.tree_check.specs.Concerning.{IsOfEntries, IsOfFile}
use Rattle.tree_check.specs.Known.{IsKnownAt}
use Rattle.tree_check.proofs.DroppingLemmas.{orderly_landed}
use Rattle.tree_check.proofs.Failing.{all_fail_for}
use Rattle.tree_check.proofs.KnownLemmas.{accounted_fails, beside_fails, index_found, index_left, index_so}
use Rattle.tree_check.proofs.OfItem.{between_named}
use Rattle.tree_check.proofs.writers.check_index.Goals as goal

pub returns-then-has_left-clause-ok : goal.returns-then-has_left-clause-ok
returns-then-has_left-clause-ok g c =
    index_left c.args.place.now c.args.owners.now c.args.truncs.now c.args.path.now c.args.host c.args.writer c.requires.at (g.S.Store.stored c.args.store.now) (sym c.has_left.ensures ∙ c.if-has_left.true)

pub returns-in_err-dropping-clause-err : goal.returns-in_err-dropping-clause-err
returns-in_err-dropping-clause-err g c =
    let old = g.S.Store.stored c.args.store.now in
    all_fail_for (IsKnownAt c.args.place.now c.args.owners.now c.args.truncs.now c.args.path.now) (IsPlaced c.args.place.now) old old (g.S.Store.stored c.take_dropping.new.store) c.from_residual.result
    (λ tree seen known. known.at.placed) (looked_same old) (search rules)

pub returns-in_err-check_accounted-clause-err : goal.returns-in_err-check_accounted-clause-err
returns-in_err-check_accounted-clause-err g c =
    accounted_fails c.args.place.now c.args.owners.now c.args.truncs.now c.args.path.now c.args.host c.args.writer c.requires.at c.in_ok-dropping.dropping
    (g.S.Store.stored c.args.store.now) (g.S.Store.stored c.take_dropping.new.store) (g.S.Store.stored c.check_accounted.new.store) c.from_residual-in_err-check_accounted.result
    (sym c.has_left.ensures ∙ c.if-has_left.false) c.take_dropping.ensures.looked c.in_ok-dropping.ensures.ok (search rules)

pub landed-requires : goal.landed-requires
landed-requires g c = c.in_ok-dropping.ensures.orderly.within

pub check_beside-requires : goal.check_beside-requires
check_beside-requires g c = rw c.landed.ensures (orderly_landed c.args.writer c.in_ok-dropping.dropping c.in_ok-dropping.ensures.orderly)

pub returns-clause-ok : goal.returns-clause-ok
returns-clause-ok g c =
    index_so c.args.place.now c.args.owners.now c.args.truncs.now c.args.path.now c.args.host c.args.writer c.requires.at c.in_ok-dropping.dropping
    (g.S.Store.stored c.args.store.now) (g.S.Store.stored c.take_dropping.new.store) c.check_beside.result c.take_dropping.ensures.looked c.in_ok-dropping.ensures.ok c.in_ok-check_accounted.ensures.ok
    (rw c.landed.ensures at c.check_beside.ensures.ok)

pub returns-clause-err : goal.returns-clause-err
returns-clause-err g c =
    beside_fails c.args.place.now c.args.owners.now c.args.truncs.now c.args.path.now c.args.host c.args.writer c.requires.at c.in_ok-dropping.dropping
    (g.S.Store.stored c.args.store.now) (g.S.Store.stored c.check_accounted.new.store) c.check_beside.result c.in_ok-dropping.ensures.ok (rw c.landed.ensures at c.check_beside.ensures.err)

pub returns-in_err-dropping-clause-named : goal.returns-in_err-dropping-clause-named
returns-in_err-dropping-clause-named g c =
    let path = index_path c.args.host c.args.writer in
    index_found c.args.place.now c.args.owners.now c.args.truncs.now c.args.path.now c.args.host c.args.writer c.requires.at (g.S.Store.stored c.args.store.now) c.from_residual.result (sym c.has_left.ensures ∙ c.if-has_left.false)
    (all_found_by c.args.place.now.name (IsOfEntries path) (IsOfFile path) (λ complaint of. of.0) c.from_residual.result (search rules))

pub returns-in_err-check_accounted-clause-named : goal.returns-in_err-check_accounted-clause-named
returns-in_err-check_accounted-clause-named g c = index_found c.args.place.now c.args.owners.now c.args.truncs.now c.args.path.now c.args.host c.args.writer c.requires.at (g.S.Store.stored c.args.store.now) c.from_residual-in_err-check_accounted.result (sym c.has_left.ensures ∙ c.if-has_left.false) (search rules)

pub returns-clause-named : goal.returns-clause-named
returns-clause-named g c =
    index_found c.args.place.now c.args.owners.now c.args.truncs.now c.args.path.now c.args.host c.args.writer c.requires.at (g.S.Store.stored c.args.store.now) c.check_beside.result (sym c.has_left.ensures ∙ c.if-has_left.false)
    (between_named c.args.place.now.name c.args.host c.args.writer c.landed.result.now c.args.truncs.now c.check_beside.result c.check_beside.ensures.err)
