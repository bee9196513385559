use Rattle.tree_check.proofs.TreeLemmas.{found_fault, found_right, found_sound}
use Rattle.tree_check.proofs.checking.check_tree.Goals as goal

pub returns-clause-unchanged : goal.returns-clause-unchanged
returns-clause-unchanged g c = c.check_all.ensures.looked.same

pub returns-clause-sound : goal.returns-clause-sound
returns-clause-sound g c = found_sound (g.S.Store.stored c.args.store.now) c.check_all.result c.a_checked_tree_is_sound.ensures c.check_all.ensures.ok

pub returns-clause-right : goal.returns-clause-right
returns-clause-right g c = found_right (g.S.Store.stored c.args.store.now) (g.S.Store.stored c.check_all.new.store) c.check_all.result c.check_all.ensures.err

pub returns-clause-fault : goal.returns-clause-fault
returns-clause-fault g c = found_fault (g.S.Store.stored c.args.store.now) (g.S.Store.stored c.check_all.new.store) c.check_all.result c.check_all.ensures.err
