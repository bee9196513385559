use Rattle.migrate_core.proofs.EntryLemmas.{Checking}
use Rattle.migrate_core.proofs.entries.Told.checked.Given as goal

abbrev pub invariant-loop-left : goal.invariant-loop-left
invariant-loop-left l = Checking l.fn.count l.fn.bytes l.fn.self l.left l.rest l.tail

abbrev pub decreases-loop-left : goal.decreases-loop-left
decreases-loop-left l = l.left
