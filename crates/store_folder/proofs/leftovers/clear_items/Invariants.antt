use Rattle.std.proofs.Common.{take}
use Rattle.store_folder.specs.ForEach.{ForEach}
use Rattle.store_folder.specs.Leftovers.{ClearsItem}
use Rattle.store_folder.proofs.leftovers.clear_items.Given as goal

abbrev pub invariant-loop-name : goal.invariant-loop-name
invariant-loop-name g l =
    record {
      made : ForEach (ClearsItem l.folder) (take l.name-index l.names) (g.C.Calls.log l.fn.calls) (g.C.Calls.log l.calls);
    }
