use Rattle.torn_tail.proofs.CheckLemmas.{Checking}
use Rattle.torn_tail.proofs.entries.checked.Given as goal

abbrev pub invariant-loop-left : goal.invariant-loop-left
invariant-loop-left l = Checking l.log l.fn.count l.fn.bytes l.fn.first.run l.left l.rest l.counted.run

abbrev pub decreases-loop-left : goal.decreases-loop-left
decreases-loop-left l = l.left
