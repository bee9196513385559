use Rattle.tree_check.proofs.EntryLemmas.{AreSummed}
use Rattle.tree_check.proofs.entries.sum_of.Given as goal

-- this is what the entries so far tell
abbrev pub invariant-loop-entry : goal.invariant-loop-entry
invariant-loop-entry l = AreSummed l.entries l.entry-index l.end l.bytes l.stamp
