use Rattle.std.proofs.Common.{take}
use Rattle.tree_check.specs.Droppings.{AreOutside}
use Rattle.tree_check.proofs.droppings.check_between.Given as goal

-- none of the truncates so far is
abbrev pub invariant-loop-trunc : goal.invariant-loop-trunc
invariant-loop-trunc l = AreOutside l.first l.last (take l.trunc-index l.truncs)
