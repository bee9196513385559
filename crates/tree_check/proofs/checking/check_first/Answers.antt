use Rattle.tree_check.proofs.RoomLemmas.{first_fails, first_right}
use Rattle.tree_check.proofs.checking.check_first.Goals as goal

pub returns-clause-ok : goal.returns-clause-ok
returns-clause-ok g c = first_right c.args.marks c.args.name (g.S.Store.stored c.args.store.now) c.as_slice.result.now c.first_of.result (rw c.as_slice.ensures c.in_ok-found.ensures.ok) c.first_of.ensures.ok

pub returns-clause-err : goal.returns-clause-err
returns-clause-err g c = first_fails c.args.marks c.args.name (g.S.Store.stored c.args.store.now) (g.S.Store.stored c.check_named.new.store) c.as_slice.result.now c.first_of.result (rw c.as_slice.ensures c.in_ok-found.ensures.ok) c.first_of.ensures.err
