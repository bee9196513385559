use Rattle.std.proofs.Common.{◌≡◌, ◌++◌}
use Rattle.index_pack.specs.Runs.{entries_from}
use Rattle.index_pack.proofs.unpacking.push_entries.Given as goal

abbrev pub invariant-loop-index : goal.invariant-loop-index
invariant-loop-index l = l.entries.items ≡ l.fn.entries.items ++ entries_from l.run 0 l.index
