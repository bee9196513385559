use Rattle.std.proofs.Common.{◌≡◌, ◌++◌, take, drop}
use Rattle.store_memory.specs.Lost.{lost_rooms}
use Rattle.store_memory.proofs.losing.lose.Given as goal

abbrev pub invariant-loop-number : goal.invariant-loop-number
invariant-loop-number l = l.tree ≡ record { rooms = lost_rooms l.keeps 0 (take l.number l.fn.tree.rooms) ++ drop l.number l.fn.tree.rooms }
