use Rattle.std.proofs.Common.{◌≡◌, ◌++◌, drop}
use Rattle.drain_copy.specs.Planning.{covers_of}
use Rattle.drain_copy.proofs.plan.covers_of.Given as goal

abbrev pub invariant-loop-mirror : goal.invariant-loop-mirror
invariant-loop-mirror l = l.covers.items ++ covers_of (drop l.mirror-index l.mirrors) ≡ covers_of l.mirrors
