use Rattle.tree_check.specs.Rooms.{IsNamed}
use Rattle.tree_check.proofs.HaltLemmas.{all_halt}
use Rattle.tree_check.proofs.RoomLemmas.{named_told, one_told_all}
use Rattle.tree_check.proofs.checking.check_room.Goals as goal

pub returns-in-Ok-clause-ok : goal.returns-in-Ok-clause-ok
returns-in-Ok-clause-ok g c = named_told c.args.marks c.args.name (g.S.Store.stored c.args.store.now) c.in-Ok.found c.in-Ok.ensures.ok

pub returns-in-Err-clause-ok : goal.returns-in-Err-clause-ok
returns-in-Err-clause-ok g c = one_told_all c.args.marks c.args.name (g.S.Store.stored c.args.store.now) (g.S.Store.stored c.check_named.new.store) c.in-Err.finding c.one_of.result c.one_of.ensures.ok c.in-Err.ensures.err c.in-Err.ensures.shape

pub returns-in-Err-clause-err : goal.returns-in-Err-clause-err
returns-in-Err-clause-err g c = all_halt (IsNamed c.args.marks c.args.name) (g.S.Store.stored c.args.store.now) (g.S.Store.stored c.check_named.new.store) c.in-Err.finding c.one_of.result c.one_of.ensures.err c.in-Err.ensures.err
