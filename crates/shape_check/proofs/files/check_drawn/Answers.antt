use Rattle.shape_check.proofs.FileLemmas.{marked_wrong}
use Rattle.shape_check.proofs.files.check_drawn.Goals as goal

pub returns-clause-err : goal.returns-clause-err
returns-clause-err g c =
    marked_wrong c.args.place.now c.args.path c.args.id (g.S.Store.stored c.args.store.now) (g.S.Store.stored c.is_marked.new.store) c.in_ok-is.is' c.in_ok-is.ensures.ok c.if-is.false
