use Rattle.std.proofs.Common.{map}
use Rattle.system_edge.specs.Roots.{AreFreeBefore}
use Rattle.system_edge.proofs.roots.first_unfit.Given as goal

-- each folder so far is free
abbrev pub invariant-loop-place : goal.invariant-loop-place
invariant-loop-place g l = AreFreeBefore (g.L.Looks.named l.looks) (g.L.Looks.told l.looks) (map (λ folder. folder.now) l.folders) l.place
