use Rattle.std.proofs.Common.{rules, inl, refl}
use Rattle.mount_model.specs.declared.row.Making.TheVariants as making
use Rattle.tree_check.proofs.IndexLemmas.{right_index, wrong_index}
use Rattle.tree_check.proofs.OfItem.{flat_owned}
use Rattle.tree_check.proofs.indices.check_flat.Goals as goal

pub returns-then-holds-clause-ok : goal.returns-then-holds-clause-ok
returns-then-holds-clause-ok g c =
    right_index c.args.place.now c.args.owners.now c.args.path.now making.Flat c.args.id c.requires.at (g.S.Store.stored c.args.store.now) c.in_ok-holds.holds c.if-holds.true c.in_ok-holds.ensures.ok

pub returns-clause-err : goal.returns-clause-err
returns-clause-err g c =
    wrong_index c.args.place.now c.args.owners.now c.args.path.now making.Flat c.args.id c.requires.at (g.S.Store.stored c.args.store.now) (g.S.Store.stored c.is_right_flat.new.store) c.in_ok-holds.holds c.if-holds.false c.in_ok-holds.ensures.ok

pub returns-in_err-holds-clause-named : goal.returns-in_err-holds-clause-named
returns-in_err-holds-clause-named g c = flat_owned c.args.place.now c.args.owners.now c.args.path.now (g.S.Store.stored c.args.store.now) c.from_residual.result (search rules)

pub returns-clause-named : goal.returns-clause-named
returns-clause-named g c = λ tree seen at. (refl, inl refl)
