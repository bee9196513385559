use Rattle.std.proofs.Common.{◌≡◌, length, map, take}
use Rattle.store_folder.specs.Stored.{root_of}
use Rattle.system_edge.proofs.folders.stores_of.Given as goal

-- a store on each folder so far
abbrev pub invariant-loop-folder : goal.invariant-loop-folder
invariant-loop-folder g l =
    record {
      on_each : map (λ store. root_of store) l.stores ≡ map (λ folder. folder.now) (take l.folder-index l.folders);
      count : length l.stores ≡ l.folder-index;
    }
