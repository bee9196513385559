use Rattle.std.proofs.Common.{rules, inl, inr, refl}
use Rattle.mount_model.specs.declared.row.Making.TheVariants as making
use Rattle.mount_model.specs.Paths.{index_path}
use Rattle.shape_check.proofs.Facts.{all_found_by}
use Rattle.tree_check.specs.Concerning.{IsOfEntries, IsOfPack}
use Rattle.tree_check.proofs.IndexLemmas.{right_index, wrong_index}
use Rattle.tree_check.proofs.indices.check_pack.Goals as goal

pub returns-then-holds-clause-ok : goal.returns-then-holds-clause-ok
returns-then-holds-clause-ok g c =
    right_index c.args.place.now c.args.owners.now c.args.path.now (making.Pack c.args.host c.args.writer) 0 c.requires.at (g.S.Store.stored c.args.store.now) c.in_ok-holds.holds c.if-holds.true c.in_ok-holds.ensures.ok

pub returns-clause-err : goal.returns-clause-err
returns-clause-err g c =
    wrong_index c.args.place.now c.args.owners.now c.args.path.now (making.Pack c.args.host c.args.writer) 0 c.requires.at (g.S.Store.stored c.args.store.now) (g.S.Store.stored c.is_right_pack.new.store) c.in_ok-holds.holds c.if-holds.false c.in_ok-holds.ensures.ok

pub returns-in_err-holds-clause-named : goal.returns-in_err-holds-clause-named
returns-in_err-holds-clause-named g c =
    all_found_by c.args.place.now.name (IsOfEntries (index_path c.args.host c.args.writer)) (IsOfPack c.args.path.now c.args.host c.args.writer) (λ complaint of. inr of) c.from_residual.result (search rules)

pub returns-clause-named : goal.returns-clause-named
returns-clause-named g c = (refl, inl refl)
