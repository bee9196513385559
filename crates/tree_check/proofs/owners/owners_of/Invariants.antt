use Rattle.std.proofs.Common.{take}
use Rattle.tree_check.specs.Owners.{AreOwnersAt}
use Rattle.tree_check.proofs.owners.owners_of.Given as goal

-- these are the writers of the items so far
abbrev pub invariant-loop-path : goal.invariant-loop-path
invariant-loop-path l = AreOwnersAt (take l.path-index l.paths) l.owners
