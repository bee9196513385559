use Rattle.std.proofs.Common.{◌≡◌, ◌++◌, length}
use Rattle.drain_copy.specs.Planning.{dues_of}
use Rattle.drain_copy.proofs.plan.dues_of.Given as goal

abbrev pub invariant-loop-read : goal.invariant-loop-read
invariant-loop-read l = l.dues ++ dues_of l.held l.rest ≡ dues_of l.held l.fn.writers

abbrev pub decreases-loop-read : goal.decreases-loop-read
decreases-loop-read l = length l.rest
