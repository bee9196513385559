use Rattle.tree_check.proofs.AloneLemmas.{AreSame}
use Rattle.tree_check.proofs.alone.are_entries.Given as goal

-- the first ones are the same
abbrev pub invariant-loop-place : goal.invariant-loop-place
invariant-loop-place l = AreSame l.entries l.pieces l.place
