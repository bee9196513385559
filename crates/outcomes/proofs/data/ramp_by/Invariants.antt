use Rattle.std.proofs.Common.{◌≡◌, ◌*◌, length}
use Rattle.outcomes.proofs.Agreeing.{ramp_of}
use Rattle.outcomes.proofs.data.ramp_by.Given as goal

abbrev pub invariant-loop-copy : goal.invariant-loop-copy
invariant-loop-copy l = l.bytes.items ≡ ramp_of l.first (length l.front * l._copy)
