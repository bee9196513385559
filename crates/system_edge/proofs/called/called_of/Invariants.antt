use Rattle.std.proofs.Common.{◌++◌, length, map}
use Rattle.std.specs.Prelude.{string_bytes}
use Rattle.std.specs.Vec.Iter.{into_iter_items}
use Rattle.system_edge.specs.Called.{AreCalled}
use Rattle.system_edge.proofs.called.called_of.Given as goal

-- the words so far, and what is left of the arguments, are those behind the first one
abbrev pub invariant-loop-word : goal.invariant-loop-word
invariant-loop-word l = AreCalled (map (λ arg. string_bytes arg) (into_iter_items l.fn.args)) l.program (l.words.items ++ map (λ arg. string_bytes arg) (into_iter_items l.rest))

abbrev pub decreases-loop-word : goal.decreases-loop-word
decreases-loop-word l = length (into_iter_items l.rest)
