use Rattle.container_layout.specs.declared.items.Item.TheVariants as item
use Rattle.tree_check.specs.Concerning.{IsOfItem, IsOfLeft, IsOfPack}
use Rattle.tree_check.specs.Known.{IsRightItem}
use Rattle.tree_check.proofs.KnownLemmas.{flat_known, found_known, owned_fails, owned_known}
use Rattle.tree_check.proofs.writers.check_kind.Goals as goal

pub returns-in-Index-clause-ok : goal.returns-in-Index-clause-ok
returns-in-Index-clause-ok g c = rw c.in-Index.is c.check_index.ensures.ok

pub returns-in-Packed-clause-ok : goal.returns-in-Packed-clause-ok
returns-in-Packed-clause-ok g c =
    rw c.in-Packed.is (owned_known c.args.place.now c.args.owners.now c.args.truncs.now c.args.path.now (IsRightItem (item.Packed c.in-Packed.host c.in-Packed.writer)) (g.S.Store.stored c.args.store.now) c.check_pack.result c.check_pack.ensures.ok)

pub returns-in-Packed-clause-err : goal.returns-in-Packed-clause-err
returns-in-Packed-clause-err g c = owned_fails c.args.place.now c.args.owners.now c.args.truncs.now c.args.path.now (g.S.Store.stored c.args.store.now) (g.S.Store.stored c.check_pack.new.store) c.check_pack.result c.check_pack.ensures.err

pub returns-in-Flat-clause-ok : goal.returns-in-Flat-clause-ok
returns-in-Flat-clause-ok g c =
    rw c.in-Flat.is (owned_known c.args.place.now c.args.owners.now c.args.truncs.now c.args.path.now (IsRightItem (item.Flat c.in-Flat.id)) (g.S.Store.stored c.args.store.now) c.check_flat.result c.check_flat.ensures.ok)

pub returns-in-Flat-clause-err : goal.returns-in-Flat-clause-err
returns-in-Flat-clause-err g c = owned_fails c.args.place.now c.args.owners.now c.args.truncs.now c.args.path.now (g.S.Store.stored c.args.store.now) (g.S.Store.stored c.check_flat.new.store) c.check_flat.result c.check_flat.ensures.err

pub returns-in-Index-clause-named : goal.returns-in-Index-clause-named
returns-in-Index-clause-named g c = rw c.in-Index.is c.check_index.ensures.named

pub returns-in-Meta-clause-named : goal.returns-in-Meta-clause-named
returns-in-Meta-clause-named g c =
    rw c.in-Meta.is (found_known c.args.place.now c.args.owners.now c.args.truncs.now c.args.path.now (IsOfLeft c.args.path.now c.in-Meta.host c.in-Meta.writer) (IsOfItem c.args.path.now (item.Meta c.in-Meta.last c.in-Meta.bytes c.in-Meta.stamp c.in-Meta.host c.in-Meta.writer)) (g.S.Store.stored c.args.store.now) c.check_meta.result
    (λ room complaint of. of) c.check_meta.ensures.named)

pub returns-in-Packed-clause-named : goal.returns-in-Packed-clause-named
returns-in-Packed-clause-named g c =
    rw c.in-Packed.is (found_known c.args.place.now c.args.owners.now c.args.truncs.now c.args.path.now (IsOfPack c.args.path.now c.in-Packed.host c.in-Packed.writer) (IsOfItem c.args.path.now (item.Packed c.in-Packed.host c.in-Packed.writer)) (g.S.Store.stored c.args.store.now) c.check_pack.result
    (λ room complaint of. of) c.check_pack.ensures.named)

pub returns-in-Flat-clause-named : goal.returns-in-Flat-clause-named
returns-in-Flat-clause-named g c = rw c.in-Flat.is (flat_known c.args.place.now c.args.owners.now c.args.truncs.now c.args.path.now c.in-Flat.id (g.S.Store.stored c.args.store.now) c.check_flat.result c.check_flat.ensures.named)
