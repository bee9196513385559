use Rattle.std.proofs.Common.{take}
use Rattle.tree_check.specs.Truncates.{AreTruncsAt}
use Rattle.tree_check.proofs.truncates.truncs_of.Given as goal

-- these are the truncates so far
abbrev pub invariant-loop-path : goal.invariant-loop-path
invariant-loop-path l = AreTruncsAt (take l.path-index l.paths) l.truncs
