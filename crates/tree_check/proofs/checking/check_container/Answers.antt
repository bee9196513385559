use Rattle.std.proofs.Common.{rules}
use Rattle.shape_check.proofs.Facts.{unbroken_shapes}
use Rattle.tree_check.proofs.ContainerLemmas.{container_told, container_fails}
use Rattle.tree_check.proofs.OfShape.{two_hosts_shape, two_truncs_shape}
use Rattle.tree_check.proofs.OwnerLemmas.{owners_fail}
use Rattle.tree_check.proofs.TruncLemmas.{truncs_fail}
use Rattle.tree_check.proofs.checking.check_container.Goals as goal

pub returns-in_err-owners-clause-err : goal.returns-in_err-owners-clause-err
returns-in_err-owners-clause-err g c =
    owners_fail c.args.place.now c.as_slice.result.now (g.S.Store.stored c.args.store.now) (g.S.Store.stored c.check_shape.new.store) c.from_residual-in_err-owners.result (rw c.as_slice.ensures c.in_ok-paths.ensures.ok) (search rules)

pub returns-in_err-truncs-clause-err : goal.returns-in_err-truncs-clause-err
returns-in_err-truncs-clause-err g c =
    truncs_fail c.args.place.now c.as_slice-2.result.now (g.S.Store.stored c.args.store.now) (g.S.Store.stored c.check_shape.new.store) c.from_residual-in_err-truncs.result (rw c.as_slice-2.ensures c.in_ok-paths.ensures.ok) (search rules)

pub returns-clause-ok : goal.returns-clause-ok
returns-clause-ok g c =
    container_told c.args.place.now c.as_slice-4.result.now c.in_ok-owners.owners c.as_slice-3.result.now (g.S.Store.stored c.args.store.now) (g.S.Store.stored c.check_shape.new.store)
    (rw c.as_slice-4.ensures c.in_ok-paths.ensures.ok)
    (rw c.as_slice-4.ensures (rw c.as_slice.ensures at c.in_ok-owners.ensures.ok))
    (rw (c.as_slice-4.ensures, c.as_slice-3.ensures) (rw c.as_slice-2.ensures at c.in_ok-truncs.ensures.ok))
    c.check_shape.ensures.looked c.check_items.result c.check_items.ensures.ok

pub returns-clause-err : goal.returns-clause-err
returns-clause-err g c =
    container_fails c.args.place.now c.as_slice-4.result.now c.in_ok-owners.owners c.as_slice-3.result.now (g.S.Store.stored c.args.store.now) (g.S.Store.stored c.check_shape.new.store)
    (rw c.as_slice-4.ensures c.in_ok-paths.ensures.ok)
    (rw c.as_slice-4.ensures (rw c.as_slice.ensures at c.in_ok-owners.ensures.ok))
    (rw (c.as_slice-4.ensures, c.as_slice-3.ensures) (rw c.as_slice-2.ensures at c.in_ok-truncs.ensures.ok))
    c.check_shape.ensures.looked (g.S.Store.stored c.check_items.new.store) c.check_items.result c.check_items.ensures.err

pub returns-in_err-owners-clause-shape : goal.returns-in_err-owners-clause-shape
returns-in_err-owners-clause-shape g c = two_hosts_shape c.args.place.now.name c.as_slice.result.now c.from_residual-in_err-owners.result (search rules)

pub returns-in_err-truncs-clause-shape : goal.returns-in_err-truncs-clause-shape
returns-in_err-truncs-clause-shape g c = two_truncs_shape c.args.place.now.name c.as_slice-2.result.now c.from_residual-in_err-truncs.result (search rules)

pub returns-clause-shape : goal.returns-clause-shape
returns-clause-shape g c = unbroken_shapes c.args.place.now.name c.check_items.result c.check_items.ensures.unbroken
