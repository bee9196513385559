use Rattle.std.proofs.Common.{take}
use Rattle.store_folder.specs.ForEach.{ForEach}
use Rattle.store_folder.specs.NewRooms.{BuildsFolder}
use Rattle.store_folder.proofs.building.build_folders.Given as goal

abbrev pub invariant-loop-folder : goal.invariant-loop-folder
invariant-loop-folder g l =
    record {
      made : ForEach (BuildsFolder l.new) (take l.folder-index l.folders) (g.C.Calls.log l.fn.calls) (g.C.Calls.log l.calls);
    }
