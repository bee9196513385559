use Rattle.std.proofs.Common.{◌≡◌, drop}
use Rattle.outcomes.specs.Data.{bytes_of, first_difference}
use Rattle.outcomes.proofs.data.difference_by_bytes.Given as goal

abbrev pub invariant-loop-j : goal.invariant-loop-j
invariant-loop-j l = first_difference l.j (drop l.j (bytes_of l.content)) (drop l.j l.found) ≡ first_difference 0 (bytes_of l.content) l.found
