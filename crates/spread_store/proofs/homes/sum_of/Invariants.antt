use Rattle.std.proofs.Common.{◌≡◌, ◌≤◌, ◌*◌, sum, take}
use Rattle.spread_store.proofs.homes.sum_of.Given as goal

-- the sum so far, which is at most 255 a byte
abbrev pub invariant-loop-byte : goal.invariant-loop-byte
invariant-loop-byte l = (l.total ≡ sum (take l.byte-index l.bytes)) × (l.total ≤ 255 * l.byte-index)
