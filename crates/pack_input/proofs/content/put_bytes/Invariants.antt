use Rattle.std.proofs.Common.{◌≡◌, ◌*◌, ◌++◌, take, drop}
use Rattle.pack_input.specs.Digits.{joined_halves}
use Rattle.pack_input.proofs.content.put_bytes.Given as goal

abbrev pub invariant-loop-place : goal.invariant-loop-place
invariant-loop-place l = joined_halves l.halves ≡ take l.place l.bytes ++ joined_halves (drop (2 * l.place) l.halves)
