use Rattle.tree_check.proofs.EntryLemmas.{HasPassed}
use Rattle.tree_check.proofs.entries.landed_of.Given as goal

-- the entries so far end within the log
abbrev pub invariant-loop-count : goal.invariant-loop-count
invariant-loop-count l = HasPassed l.log l.entries l.count
