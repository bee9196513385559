use Rattle.std.proofs.Common.{rules}
use Rattle.shape_check.specs.Files.{IsPlaced}
use Rattle.shape_check.proofs.Facts.{looked_same}
use Rattle.tree_check.specs.Concerning.{IsOfCovered}
use Rattle.tree_check.specs.Indices.{IsOwned, IsOwnedAt}
use Rattle.tree_check.proofs.Failing.{all_fail_for, none_left}
use Rattle.tree_check.proofs.FlatLemmas.{all_flat_tell, no_flat}
use Rattle.tree_check.proofs.OfItem.{covered_owned, memory_owned, unbroken_owned}
use Rattle.tree_check.proofs.indices.is_right_flat.Goals as goal

pub returns-in_err-bytes-clause-err : goal.returns-in_err-bytes-clause-err
returns-in_err-bytes-clause-err g c =
    let old = g.S.Store.stored c.args.store.now in
    all_fail_for (IsOwnedAt c.args.place.now c.args.owners.now c.args.path.now) (IsPlaced c.args.place.now) old old (g.S.Store.stored c.bytes_or_none.new.store) c.from_residual.result (λ tree seen at. at.owned.placed) (looked_same old) (search rules)

pub returns-in_err-found-clause-err : goal.returns-in_err-found-clause-err
returns-in_err-found-clause-err g c =
    none_left (IsOwnedAt c.args.place.now c.args.owners.now c.args.path.now) (g.S.Store.stored c.args.store.now) (g.S.Store.stored c.bytes_or_none.new.store) c.from_residual-in_err-found.result (search rules)

pub are_covered-requires-clause-valid : goal.are_covered-requires-clause-valid
are_covered-requires-clause-valid g c = (rw c.in-Some.is at c.in_ok-found.ensures.decoded).0

pub returns-in-Some-clause-ok : goal.returns-in-Some-clause-ok
returns-in-Some-clause-ok g c =
    all_flat_tell c.args.place.now c.args.owners.now c.args.path.now (g.S.Store.stored c.args.store.now) (g.S.Store.stored c.bytes_or_none.new.store) c.as_slice.result.now c.in-Some.flat c.are_covered.result
    c.in_ok-found.ensures.short (rw c.as_slice.ensures c.in_ok-bytes.ensures.ok) c.bytes_or_none.ensures.looked (rw c.in-Some.is at c.in_ok-found.ensures.decoded) c.are_covered.ensures.ok

pub returns-in-Some-clause-err : goal.returns-in-Some-clause-err
returns-in-Some-clause-err g c =
    all_fail_for (IsOwnedAt c.args.place.now c.args.owners.now c.args.path.now) (IsOwned c.args.place.now c.args.owners.now) (g.S.Store.stored c.args.store.now) (g.S.Store.stored c.bytes_or_none.new.store) (g.S.Store.stored c.are_covered.new.store) c.are_covered.result
    (λ tree seen at. at.owned) c.bytes_or_none.ensures.looked c.are_covered.ensures.err

pub returns-in-None-clause-ok : goal.returns-in-None-clause-ok
returns-in-None-clause-ok g c =
    no_flat c.args.place.now c.args.owners.now c.args.path.now (g.S.Store.stored c.args.store.now) c.as_slice.result.now c.in_ok-found.ensures.short (rw c.as_slice.ensures c.in_ok-bytes.ensures.ok) (rw c.in-None.is at c.in_ok-found.ensures.decoded)

pub returns-in_err-bytes-clause-named : goal.returns-in_err-bytes-clause-named
returns-in_err-bytes-clause-named g c = unbroken_owned c.args.place.now c.args.owners.now c.args.path.now (IsOfCovered c.args.path.now) (g.S.Store.stored c.args.store.now) c.from_residual.result (search rules)

pub returns-in_err-found-clause-named : goal.returns-in_err-found-clause-named
returns-in_err-found-clause-named g c = memory_owned c.args.place.now c.args.owners.now c.args.path.now (IsOfCovered c.args.path.now) (g.S.Store.stored c.args.store.now) c.from_residual-in_err-found.result (search rules)

pub returns-in-Some-clause-named : goal.returns-in-Some-clause-named
returns-in-Some-clause-named g c =
    covered_owned c.args.place.now c.args.owners.now c.args.path.now (g.S.Store.stored c.args.store.now) c.as_slice.result.now c.in-Some.flat c.are_covered.result (rw c.as_slice.ensures c.in_ok-bytes.ensures.ok) (rw c.in-Some.is at c.in_ok-found.ensures.decoded) c.are_covered.ensures.named
