use Rattle.std.proofs.Common.{map}
use Rattle.system_edge.proofs.FolderPaths.{MarkedSoFar}
use Rattle.system_edge.proofs.roots.first_marked_alone.Given as goal

-- of the folders so far at most one has marks
abbrev pub invariant-loop-place : goal.invariant-loop-place
invariant-loop-place g l = MarkedSoFar (g.L.Looks.told l.looks) (map (λ folder. folder.now) l.folders) l.is_marked l.place
