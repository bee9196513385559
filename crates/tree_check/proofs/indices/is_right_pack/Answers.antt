use Rattle.std.proofs.Common.{rules}
use Rattle.shape_check.specs.Files.{IsPlaced}
use Rattle.shape_check.proofs.Facts.{looked_on, looked_same}
use Rattle.tree_check.specs.Indices.{IsOwnedAt}
use Rattle.tree_check.proofs.Failing.{all_fail_for, none_left}
use Rattle.tree_check.proofs.IndexLemmas.{no_pack_index, no_pack_left, pack_tells}
use Rattle.tree_check.proofs.indices.is_right_pack.Goals as goal

pub returns-then-not-is_left_of-clause-ok : goal.returns-then-not-is_left_of-clause-ok
returns-then-not-is_left_of-clause-ok g c =
    no_pack_left c.args.place.now c.args.owners.now c.args.path.now c.args.host c.args.writer (g.S.Store.stored c.args.store.now) c.is_left_of.result c.if-not-is_left_of.true c.is_left_of.ensures

pub returns-in_err-has-clause-err : goal.returns-in_err-has-clause-err
returns-in_err-has-clause-err g c =
    let old = g.S.Store.stored c.args.store.now in
    all_fail_for (IsOwnedAt c.args.place.now c.args.owners.now c.args.path.now) (IsPlaced c.args.place.now) old old (g.S.Store.stored c.has_file.new.store) c.from_residual.result (λ tree seen at. at.owned.placed) (looked_same old) (search rules)

pub returns-then-not-has-clause-ok : goal.returns-then-not-has-clause-ok
returns-then-not-has-clause-ok g c =
    no_pack_index c.args.place.now c.args.owners.now c.args.path.now c.args.host c.args.writer (g.S.Store.stored c.args.store.now) c.in_ok-has.has c.if-not-has.true (rw c.index_of.ensures at c.in_ok-has.ensures.ok)

pub returns-in_err-bytes-clause-err : goal.returns-in_err-bytes-clause-err
returns-in_err-bytes-clause-err g c =
    all_fail_for (IsOwnedAt c.args.place.now c.args.owners.now c.args.path.now) (IsPlaced c.args.place.now) (g.S.Store.stored c.args.store.now) (g.S.Store.stored c.has_file.new.store) (g.S.Store.stored c.bytes_or_none.new.store) c.from_residual-in_err-bytes.result
    (λ tree seen at. at.owned.placed) c.has_file.ensures.looked (search rules)

pub returns-in_err-dropping-clause-err : goal.returns-in_err-dropping-clause-err
returns-in_err-dropping-clause-err g c =
    let old = g.S.Store.stored c.args.store.now in
    let a = g.S.Store.stored c.has_file.new.store in
    let b = g.S.Store.stored c.bytes_or_none.new.store in
    all_fail_for (IsOwnedAt c.args.place.now c.args.owners.now c.args.path.now) (IsPlaced c.args.place.now) old b (g.S.Store.stored c.take_dropping.new.store) c.from_residual-in_err-dropping.result
    (λ tree seen at. at.owned.placed) (looked_on old a b c.has_file.ensures.looked c.bytes_or_none.ensures.looked) (search rules)

pub landed-requires : goal.landed-requires
landed-requires g c = c.in_ok-dropping.ensures.orderly.within

pub returns-in_err-holds-clause-err : goal.returns-in_err-holds-clause-err
returns-in_err-holds-clause-err g c =
    none_left (IsOwnedAt c.args.place.now c.args.owners.now c.args.path.now) (g.S.Store.stored c.args.store.now) (g.S.Store.stored c.take_dropping.new.store) c.from_residual-in_err-holds.result (search rules)

pub returns-clause-ok : goal.returns-clause-ok
returns-clause-ok g c =
    pack_tells c.args.place.now c.args.owners.now c.args.path.now c.args.host c.args.writer c.in_ok-dropping.dropping (g.S.Store.stored c.args.store.now) (g.S.Store.stored c.has_file.new.store) (g.S.Store.stored c.bytes_or_none.new.store)
    c.in_ok-has.has c.in_ok-holds.holds c.as_slice.result.now (c.is_left_of.ensures.0 c.if-not-is_left_of.false) c.if-not-has.false (rw c.index_of.ensures at c.in_ok-has.ensures.ok)
    c.has_file.ensures.looked (rw c.as_slice.ensures c.in_ok-bytes.ensures.ok) c.bytes_or_none.ensures.looked c.in_ok-dropping.ensures.ok (rw c.landed.ensures at c.in_ok-holds.ensures)
