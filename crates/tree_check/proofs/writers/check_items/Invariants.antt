use Rattle.std.proofs.Common.{take}
use Rattle.shape_check.specs.Seeing.{IsLookedAt}
use Rattle.tree_check.specs.Complaining.{TellsOfItems}
use Rattle.tree_check.specs.Droppings.{IsKept}
use Rattle.tree_check.specs.Known.{OfKnownAll}
use Rattle.tree_check.proofs.writers.check_items.Given as goal

-- the store is looked at alone, what is kept is so, and what is found is told of the items so far
abbrev pub invariant-loop-path : goal.invariant-loop-path
invariant-loop-path g l = record {
  kept : IsKept l.place l.kept (g.S.Store.stored l.store);
  looked : IsLookedAt (g.S.Store.stored l.fn.store) (g.S.Store.stored l.store);
  told : OfKnownAll (TellsOfItems (take l.path-index l.paths) l.found) l.place l.owners l.truncs l.paths (g.S.Store.stored l.fn.store);
}
