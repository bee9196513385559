use Rattle.std.proofs.Common.{rules}
use Rattle.shape_check.proofs.FileLemmas.{items_wrong, item_fails, item_fine}
use Rattle.shape_check.proofs.files.check_file.Goals as goal

pub returns-in_err-id-clause-err : goal.returns-in_err-id-clause-err
returns-in_err-id-clause-err g c =
    items_wrong c.args.place.now c.args.path c.in-Some.len (g.S.Store.stored c.args.store.now) (g.S.Store.stored c.length.new.store) c.from_residual-in_err-id.result (search rules) (search rules)

pub returns-clause-ok : goal.returns-clause-ok
returns-clause-ok g c =
    item_fine c.args.place.now c.args.path c.in-Some.len c.in_ok-id.id (g.S.Store.stored c.args.store.now) (g.S.Store.stored c.length.new.store) c.check_id.result c.length.ensures.looked (search rules) c.in_ok-id.ensures.ok c.check_id.ensures.ok

pub returns-clause-err : goal.returns-clause-err
returns-clause-err g c =
    item_fails c.args.place.now c.args.path c.in-Some.len c.in_ok-id.id (g.S.Store.stored c.args.store.now) (g.S.Store.stored c.length.new.store) (g.S.Store.stored c.check_id.new.store) c.check_id.result c.length.ensures.looked (search rules) c.in_ok-id.ensures.ok c.check_id.ensures.err
