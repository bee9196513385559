use Rattle.std.proofs.Common.{◌≡◌}
use Rattle.index_pack.specs.Reading.{runs_in}
use Rattle.index_pack.specs.Runs.{entries_of}
use Rattle.index_pack.proofs.unpacking.entries_in.Given as goal

abbrev pub invariant-loop-index : goal.invariant-loop-index
invariant-loop-index l = l.entries.items ≡ entries_of (runs_in l.index l.bytes)
