use Rattle.std.proofs.Common.{take}
use Rattle.store_folder.specs.Rooms.{FindsRooms}
use Rattle.store_folder.proofs.rooms.rooms_among.Given as goal

abbrev pub invariant-loop-name : goal.invariant-loop-name
invariant-loop-name g l =
    record {
      found : FindsRooms l.root (take l.name-index l.names) l.rooms.items (g.C.Calls.log l.fn.calls) (g.C.Calls.log l.calls);
    }
