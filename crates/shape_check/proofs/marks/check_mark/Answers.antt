use Rattle.std.proofs.Common.{rules}
use Rattle.shape_check.proofs.MarkLemmas.{mark_wrong}
use Rattle.shape_check.proofs.marks.check_mark.Goals as goal

pub returns-then-not-is_fine_mark-clause-err : goal.returns-then-not-is_fine_mark-clause-err
returns-then-not-is_fine_mark-clause-err g c =
    mark_wrong (g.S.Store.stored c.args.store.now) (g.S.Store.stored c.length.new.store) c.args.number c.args.file c.in-Some.len c.is_fine_mark.result c.broken.result
    (search rules) c.is_fine_mark.ensures c.if-not-is_fine_mark.true (search rules)
