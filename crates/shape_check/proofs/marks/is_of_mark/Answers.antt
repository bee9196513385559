use Rattle.std.proofs.Common.{rules}
use Rattle.shape_check.proofs.IdLemmas.{drawn}
use Rattle.shape_check.proofs.marks.is_of_mark.Goals as goal

pub returns-clause-ok : goal.returns-clause-ok
returns-clause-ok g c =
    drawn (g.S.Store.stored c.args.store.now) c.args.number c.args.id c.in_ok-len.len c.is_empty.result (search rules) (search rules) (search rules) c.is_empty.ensures
