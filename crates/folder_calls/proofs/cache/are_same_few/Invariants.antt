use Rattle.std.proofs.Common.{◌≡◌, drop, nat_eq}
use Rattle.std.specs.Cmp.Lexicographic.{pointwise}
use Rattle.folder_calls.proofs.cache.are_same_few.Given as goal

abbrev pub invariant-loop-j : goal.invariant-loop-j
invariant-loop-j l = pointwise nat_eq (drop l.j l.a) (drop l.j l.b) ≡ pointwise nat_eq l.a l.b
