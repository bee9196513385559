use Rattle.std.proofs.Common.{◌≡◌, ◌++◌, take, drop, map}
use Rattle.store_memory.specs.Lost.{lost_file}
use Rattle.store_memory.proofs.losing.lose_room.Given as goal

abbrev pub invariant-loop-place : goal.invariant-loop-place
invariant-loop-place l = l.room ≡ record l.fn.room { files = map (lost_file l.keeps l.number) (take l.place l.fn.room.files) ++ drop l.place l.fn.room.files }
