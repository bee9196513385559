use Rattle.std.proofs.Common.{◌-◌}
use Rattle.shape_check.specs.Seeing.{IsLookedAt}
use Rattle.tree_check.proofs.PartLemmas.{HasFirstEntries}
use Rattle.tree_check.proofs.entries.entries_at.Given as goal

-- the store is looked at alone, and these are the entries of the first bytes
abbrev pub invariant-loop-at : goal.invariant-loop-at
invariant-loop-at g l = record {
  looked : IsLookedAt (g.S.Store.stored l.fn.store) (g.S.Store.stored l.store);
  first : HasFirstEntries (g.S.Store.stored l.fn.store) l.place l.path l.size l.at l.entries;
}

abbrev pub decreases-loop-at : goal.decreases-loop-at
decreases-loop-at g l = l.size - l.at
