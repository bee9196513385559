use Rattle.std.proofs.Common.{rules}
use Rattle.shape_check.proofs.ShapeLemmas.{paths_are, room_fails}
use Rattle.shape_check.proofs.shape.paths_of.Goals as goal

pub returns-in_err-tops-clause-err : goal.returns-in_err-tops-clause-err
returns-in_err-tops-clause-err g c = room_fails c.args.place.now (g.S.Store.stored c.args.store.now) (g.S.Store.stored c.tops_of.new.store) c.from_residual.result (search rules)

pub returns-clause-ok : goal.returns-clause-ok
returns-clause-ok g c =
    paths_are c.args.place.now (g.S.Store.stored c.args.store.now) (g.S.Store.stored c.tops_of.new.store) c.as_slice.result.now c.walk.result c.tops_of.ensures.looked (rw c.as_slice.ensures c.in_ok-tops.ensures.ok) c.walk.ensures.ok
