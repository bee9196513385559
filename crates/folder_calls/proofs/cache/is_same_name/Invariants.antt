use Rattle.std.proofs.Common.{◌≡◌, length, nat_eq}
use Rattle.std.specs.Cmp.Lexicographic.{pointwise}
use Rattle.folder_calls.proofs.cache.is_same_name.Given as goal

abbrev pub invariant-loop-front : goal.invariant-loop-front
invariant-loop-front l = pointwise nat_eq l.rest l.other ≡ pointwise nat_eq l.a l.b

abbrev pub decreases-loop-front : goal.decreases-loop-front
decreases-loop-front l = length l.rest
