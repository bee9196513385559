use Rattle.std.proofs.Common.{take}
use Rattle.store_folder.specs.ForEach.{ForEach}
use Rattle.store_folder.specs.NewRooms.{BuildsFile}
use Rattle.store_folder.proofs.building.build_files.Given as goal

abbrev pub invariant-loop-file : goal.invariant-loop-file
invariant-loop-file g l =
    record {
      made : ForEach (BuildsFile l.new) (take l.file-index l.files) (g.C.Calls.log l.fn.calls) (g.C.Calls.log l.calls);
    }
