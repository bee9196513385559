use Rattle.system_edge.specs.Roots.{EndsInMarks}
use Rattle.system_edge.proofs.Holders.{SoFar}
use Rattle.system_edge.proofs.roots.is_of_marks.Given as goal

-- no holder so far is a folder of marks
abbrev pub invariant-loop-place : goal.invariant-loop-place
invariant-loop-place l = SoFar (λ holder. ¬ EndsInMarks holder) l.path l.place
