use Rattle.std.proofs.Common.{take}
use Rattle.shape_check.specs.Seeing.{IsLookedAt}
use Rattle.tree_check.specs.Droppings.{IsKept}
use Rattle.tree_check.proofs.IndexLemmas.{TellsAll}
use Rattle.tree_check.proofs.indices.pieces_of.Given as goal

-- the store is looked at alone, what is kept is so, and the lists so far are the covers'
abbrev pub invariant-loop-cover : goal.invariant-loop-cover
invariant-loop-cover g l = record {
  kept : IsKept l.place l.kept (g.S.Store.stored l.store);
  looked : IsLookedAt (g.S.Store.stored l.fn.store) (g.S.Store.stored l.store);
  tells : TellsAll (g.S.Store.stored l.fn.store) l.place l.owners (take l.cover-index l.covers) l.lists;
}
