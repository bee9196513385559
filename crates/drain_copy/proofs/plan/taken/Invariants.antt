use Rattle.std.proofs.Common.{◌≡◌, drop}
use Rattle.drain_copy.specs.Planning.{taken}
use Rattle.drain_copy.proofs.plan.taken.Given as goal

abbrev pub invariant-loop-read : goal.invariant-loop-read
invariant-loop-read l = taken l.held (drop l.read-index l.writers) ≡ taken l.held l.writers
