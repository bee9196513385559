use Rattle.std.proofs.Common.{rules, refl, sym, ◌∙◌}
use Rattle.shape_check.specs.Files.{IsPlaced}
use Rattle.shape_check.proofs.Facts.{all_found_by, looked_same}
use Rattle.mount_model.specs.Paths.{index_path}
use Rattle.tree_check.specs.Concerning.{IsOfEntries, IsOfWriter}
use Rattle.tree_check.specs.Indices.{IsOwned}
use Rattle.tree_check.proofs.Failing.{all_fail_for}
use Rattle.tree_check.proofs.IndexLemmas.{no_index, no_owner, tells_reading}
use Rattle.tree_check.proofs.DroppingLemmas.{kept_now}
use Rattle.tree_check.proofs.alone.read_covered.Goals as goal

pub returns-in_default-clause-ok : goal.returns-in_default-clause-ok
returns-in_default-clause-ok g c = no_owner c.args.place.now c.args.owners.now c.args.cover.now (g.S.Store.stored c.args.store.now) (search rules)

pub returns-in_err-has-clause-err : goal.returns-in_err-has-clause-err
returns-in_err-has-clause-err g c =
    let old = g.S.Store.stored c.args.store.now in
    all_fail_for (IsOwned c.args.place.now c.args.owners.now) (IsPlaced c.args.place.now) old old (g.S.Store.stored c.has_file.new.store) c.from_residual.result (λ tree seen at. at.placed) (looked_same old) (search rules)

pub returns-then-not-has-clause-ok : goal.returns-then-not-has-clause-ok
returns-then-not-has-clause-ok g c =
    no_index c.args.place.now c.args.owners.now c.args.cover.now c.in-Some.owner (g.S.Store.stored c.args.store.now) c.in_ok-has.has (sym c.owner_of.ensures ∙ c.in-Some.is) c.if-not-has.true (rw c.index_of.ensures at c.in_ok-has.ensures.ok)

pub returns-in_err-dropping-clause-err : goal.returns-in_err-dropping-clause-err
returns-in_err-dropping-clause-err g c =
    all_fail_for (IsOwned c.args.place.now c.args.owners.now) (IsPlaced c.args.place.now) (g.S.Store.stored c.args.store.now) (g.S.Store.stored c.has_file.new.store) (g.S.Store.stored c.take_dropping.new.store) c.from_residual-in_err-dropping.result
    (λ tree seen at. at.placed) c.has_file.ensures.looked (search rules)

pub returns-in_err-dropping-clause-named : goal.returns-in_err-dropping-clause-named
returns-in_err-dropping-clause-named g c =
    all_found_by c.args.place.now.name (IsOfEntries (index_path c.in-Some.owner.host c.args.cover.now.writer)) (IsOfWriter c.args.cover.now.writer) (λ complaint of. (c.in-Some.owner.host, of)) c.from_residual-in_err-dropping.result (search rules)

pub returns-clause-ok : goal.returns-clause-ok
returns-clause-ok g c =
    tells_reading c.args.place.now c.args.owners.now c.args.cover.now c.in-Some.owner c.in_ok-dropping.dropping (g.S.Store.stored c.args.store.now) c.in_ok-has.has (sym c.owner_of.ensures ∙ c.in-Some.is) c.if-not-has.false (rw c.index_of.ensures at c.in_ok-has.ensures.ok)

pub returns-clause-read : goal.returns-clause-read
returns-clause-read g c = (
  refl,
  kept_now c.args.place.now c.in-Some.owner.host c.args.cover.now.writer c.in_ok-dropping.dropping (g.S.Store.stored c.has_file.new.store) (g.S.Store.stored c.take_dropping.new.store) c.take_dropping.ensures.looked
      c.in_ok-dropping.ensures.orderly c.in_ok-dropping.ensures.ok,
)
