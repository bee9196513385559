use Rattle.std.proofs.Common.{◌≡◌, [], length, take}
use Rattle.run_core.specs.Cast.{statements_in}
use Rattle.thread_runs.specs.Collecting.{lines_in, TakesAll}
use Rattle.thread_runs.proofs.collecting.collect.Given as goal

abbrev pub invariant-loop-phase : goal.invariant-loop-phase
invariant-loop-phase l = (length l.all ≡ length l.fn.all) × TakesAll (statements_in (take l.phase-index l.phases)) [] (lines_in l.fn.all) l.lines (lines_in l.all)
