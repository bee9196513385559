use Rattle.std.proofs.Common.{◌≡◌, ◌++◌, take}
use Rattle.std.specs.List.{AllByRecursion, flat_map}
use Rattle.index_pack.specs.Spelling.{run_spelling, FitsRun}
use Rattle.index_pack.proofs.packing.push_runs.Given as goal

abbrev pub invariant-loop-run : goal.invariant-loop-run
invariant-loop-run l = record {
  spelled : l.bytes.items ≡ l.fn.bytes.items ++ flat_map run_spelling (take l.run-index l.runs);
  fit : AllByRecursion FitsRun (take l.run-index l.runs);
}
