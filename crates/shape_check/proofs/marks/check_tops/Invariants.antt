use Rattle.std.proofs.Common.{take}
use Rattle.shape_check.specs.Places.{OfMarks, Each, IsFineTop}
use Rattle.shape_check.specs.Seeing.{IsLookedAt}
use Rattle.shape_check.proofs.marks.check_tops.Given as goal

-- the store is looked at alone, and the names so far are fine
abbrev pub invariant-loop-top : goal.invariant-loop-top
invariant-loop-top g l = record {
  looked : IsLookedAt (g.S.Store.stored l.fn.store) (g.S.Store.stored l.store);
  fine : OfMarks (Each IsFineTop (take l.top-index l.tops)) l.number (g.S.Store.stored l.fn.store);
}
