use Rattle.std.proofs.Common.{◌≡◌, ◌≤◌, take}
use Rattle.plfs_program.specs.Summary.{count}
use Rattle.plfs_program.proofs.summary.count.Given as goal

abbrev pub invariant-loop-line : goal.invariant-loop-line
invariant-loop-line l = record {
  so_far : l.count ≡ count l.counted (take l.line-index l.lines);
  few : l.count ≤ l.line-index;
}
