use Rattle.std.proofs.Common.{◌≡◌, drop}
use Rattle.drain_copy.specs.Planning.{mirror_in}
use Rattle.drain_copy.proofs.plan.mirror_of.Given as goal

abbrev pub invariant-loop-mirror : goal.invariant-loop-mirror
invariant-loop-mirror l = mirror_in (drop l.mirror-index l.mirrors) l.writer ≡ mirror_in l.mirrors l.writer
