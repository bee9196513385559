use Rattle.index_pack.specs.Reading.{runs_in, later_runs}
use Rattle.index_pack.proofs.ReachedLemmas.{HasReached}
use Rattle.index_pack.proofs.unpacking.entry_count.Given as goal

abbrev pub invariant-loop-index : goal.invariant-loop-index
invariant-loop-index l =
    HasReached l.writer (runs_in l.runs l.bytes) (later_runs l.runs l.index l.bytes) l.index l.so_far.entries l.so_far.stamp l.so_far.logged
