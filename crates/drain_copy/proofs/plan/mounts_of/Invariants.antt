use Rattle.std.proofs.Common.{◌≡◌, ◌++◌, drop}
use Rattle.drain_copy.specs.Planning.{mounts_behind, mounts_of}
use Rattle.drain_copy.proofs.plan.mounts_of.Given as goal

abbrev pub invariant-loop-read : goal.invariant-loop-read
invariant-loop-read l = l.mounts.items ++ mounts_behind l.last (drop l.read-index l.writers) ≡ mounts_of l.writers
