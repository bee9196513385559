use Rattle.index_reader.proofs.Indices.PackedLemmas.{Seeking}
use Rattle.index_reader.proofs.packed.run_of.Given as goal

abbrev pub invariant-loop-left : goal.invariant-loop-left
invariant-loop-left l = Seeking l.fn.number l.runs l.bytes l.left l.number l.rest

abbrev pub decreases-loop-left : goal.decreases-loop-left
decreases-loop-left l = l.left
