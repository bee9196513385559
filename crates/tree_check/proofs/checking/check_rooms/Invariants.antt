use Rattle.std.proofs.Common.{take}
use Rattle.shape_check.specs.Seeing.{IsLookedAt}
use Rattle.tree_check.specs.Rooms.{AreRight}
use Rattle.tree_check.proofs.checking.check_rooms.Given as goal

-- the store is looked at alone, and the rooms so far are right
abbrev pub invariant-loop-name : goal.invariant-loop-name
invariant-loop-name g l = record {
  looked : IsLookedAt (g.S.Store.stored l.fn.store) (g.S.Store.stored l.store);
  right : AreRight l.marks (take l.name-index l.names) (g.S.Store.stored l.fn.store);
}
