use Rattle.std.proofs.Common.{take}
use Rattle.shape_check.specs.Seeing.{IsLookedAt}
use Rattle.tree_check.specs.Rooms.{HasRooms}
use Rattle.check_program.specs.Course.{SaysRooms}
use Rattle.check_program.proofs.rooms.say_rooms.Given as goal

-- the store is looked at alone, and what is complained of the rooms so far was told
abbrev pub invariant-loop-name : goal.invariant-loop-name
invariant-loop-name g l = record {
  looked : IsLookedAt (g.S.Store.stored l.fn.store) (g.S.Store.stored l.store);
  said : SaysRooms (HasRooms l.marks l.names) (take l.name-index l.names) (g.S.Store.stored l.fn.store) (g.O.Sink.taking l.fn.out) (g.O.Sink.taking l.out) l.any;
}
