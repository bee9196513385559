use Rattle.std.proofs.Common.{take}
use Rattle.shape_check.specs.Files.{OfPlace, IsFineItem}
use Rattle.shape_check.specs.Seeing.{IsLookedAt}
use Rattle.shape_check.specs.Shape.{EachAt}
use Rattle.shape_check.proofs.shape.check_paths.Given as goal

-- the store is looked at alone, and the files so far are fine
abbrev pub invariant-loop-path : goal.invariant-loop-path
invariant-loop-path g l = record {
  looked : IsLookedAt (g.S.Store.stored l.fn.store) (g.S.Store.stored l.store);
  fine : OfPlace (EachAt IsFineItem (take l.path-index l.paths)) l.place (g.S.Store.stored l.fn.store);
}
