use Rattle.std.proofs.Common.{◌≡◌, ◌+◌, drop}
use Rattle.store_api.specs.Kept.{common}
use Rattle.store_memory.proofs.room.common.Given as goal

abbrev pub invariant-loop-i : goal.invariant-loop-i
invariant-loop-i l = common l.a l.b ≡ l.i + common (drop l.i l.a) (drop l.i l.b)
