use Rattle.std.proofs.Common.{◌≡◌, length, map, take}
use Rattle.std.specs.List.{range_with_len}
use Rattle.outcomes.specs.Data.{ramp_byte}
use Rattle.outcomes.proofs.data.period.Given as goal

abbrev pub invariant-loop-j : goal.invariant-loop-j
invariant-loop-j l = (length l.bytes ≡ 256) × (take l.j l.bytes ≡ map (ramp_byte l.first) (range_with_len 0 l.j))
