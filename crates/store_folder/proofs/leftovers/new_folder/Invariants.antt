use Rattle.store_folder.specs.Leftovers.{PassesBy}
use Rattle.store_folder.proofs.leftovers.new_folder.Given as goal

abbrev pub invariant-loop-k : goal.invariant-loop-k
invariant-loop-k g l =
    record {
      passed : PassesBy l.root l.k-counter (g.C.Calls.log l.fn.calls) (g.C.Calls.log l.calls);
    }
