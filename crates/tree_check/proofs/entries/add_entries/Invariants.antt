use Rattle.std.proofs.Common.{◌++◌, length}
use Rattle.tree_laws.specs.Checked.{whole_entries}
use Rattle.tree_check.proofs.EntryLemmas.{AreSoFar}
use Rattle.tree_check.proofs.entries.add_entries.Given as goal

-- the entries so far, and those that the rest is, are those before and all that the bytes are
abbrev pub invariant-loop-rest : goal.invariant-loop-rest
invariant-loop-rest l = AreSoFar (l.fn.entries ++ whole_entries l.bytes) l.rest l.entries

abbrev pub decreases-loop-rest : goal.decreases-loop-rest
decreases-loop-rest l = length l.rest
