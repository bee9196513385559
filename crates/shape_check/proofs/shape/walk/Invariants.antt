use Rattle.std.proofs.Common.{take}
use Rattle.shape_check.specs.Files.{OfPlace}
use Rattle.shape_check.specs.Seeing.{IsLookedAt}
use Rattle.shape_check.specs.Shape.{HasWalked}
use Rattle.shape_check.proofs.shape.walk.Given as goal

-- the store is looked at alone, and these are the paths of the folders so far
abbrev pub invariant-loop-top : goal.invariant-loop-top
invariant-loop-top g l = record {
  looked : IsLookedAt (g.S.Store.stored l.fn.store) (g.S.Store.stored l.store);
  walked : OfPlace (HasWalked (take l.top-index l.tops) l.paths) l.place (g.S.Store.stored l.fn.store);
}
