use Rattle.std.proofs.Common.{◌≡◌, ◌++◌, take, drop, map}
use Rattle.store_api.specs.AllKept.{room_kept}
use Rattle.store_memory.proofs.keeping.keep_all.Given as goal

abbrev pub invariant-loop-number : goal.invariant-loop-number
invariant-loop-number l = l.tree ≡ record { rooms = map room_kept (take l.number l.fn.tree.rooms) ++ drop l.number l.fn.tree.rooms }
