use Rattle.std.proofs.Common.{◌≡◌, ◌++◌, take, drop, map}
use Rattle.store_api.specs.Kept.{synced}
use Rattle.store_memory.proofs.keeping.keep_room.Given as goal

abbrev pub invariant-loop-place : goal.invariant-loop-place
invariant-loop-place l = l.room ≡ record l.fn.room { files = map synced (take l.place l.fn.room.files) ++ drop l.place l.fn.room.files }
