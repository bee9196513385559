use Rattle.shape_check.specs.Seeing.{IsAny}
use Rattle.tree_check.proofs.HaltLemmas.{halts_so}
use Rattle.tree_check.proofs.halting.room_number.Goals as goal

pub returns-in-Err-clause-err : goal.returns-in-Err-clause-err
returns-in-Err-clause-err g c = halts_so IsAny (g.S.Store.stored c.args.store.now) (g.S.Store.stored c.find_room.new.store) c.in-Err.finding c.halt_of.result c.halt_of.ensures c.in-Err.ensures.err
