use Rattle.system_edge.specs.Roots.{IsNoContainer}
use Rattle.system_edge.proofs.Holders.{SoFar}
use Rattle.system_edge.proofs.roots.check_path.Given as goal

-- no holder so far is a container
abbrev pub invariant-loop-place : goal.invariant-loop-place
invariant-loop-place g l = SoFar (IsNoContainer (g.L.Looks.told l.looks)) l.path l.place
