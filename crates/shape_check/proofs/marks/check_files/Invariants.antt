use Rattle.std.proofs.Common.{take}
use Rattle.shape_check.specs.Places.{OfMarks, Each, IsFineFile}
use Rattle.shape_check.specs.Seeing.{IsLookedAt}
use Rattle.shape_check.proofs.marks.check_files.Given as goal

-- the store is looked at alone, and the names so far are fine
abbrev pub invariant-loop-file : goal.invariant-loop-file
invariant-loop-file g l = record {
  looked : IsLookedAt (g.S.Store.stored l.fn.store) (g.S.Store.stored l.store);
  fine : OfMarks (Each IsFineFile (take l.file-index l.files)) l.number (g.S.Store.stored l.fn.store);
}
