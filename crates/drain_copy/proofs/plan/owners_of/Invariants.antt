use Rattle.std.proofs.Common.{◌≡◌, ◌++◌, drop}
use Rattle.drain_copy.specs.Planning.{owners_of}
use Rattle.drain_copy.proofs.plan.owners_of.Given as goal

abbrev pub invariant-loop-read : goal.invariant-loop-read
invariant-loop-read l = l.owners.items ++ owners_of (drop l.read-index l.writers) ≡ owners_of l.writers
