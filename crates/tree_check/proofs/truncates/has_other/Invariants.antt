use Rattle.tree_check.proofs.TruncLemmas.{NoneOther}
use Rattle.tree_check.proofs.truncates.has_other.Given as goal

-- none of the truncates so far is
abbrev pub invariant-loop-other : goal.invariant-loop-other
invariant-loop-other l = NoneOther l.truncs l.trunc l.other-index
