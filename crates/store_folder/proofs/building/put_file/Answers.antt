use Rattle.std.proofs.Common.{rules}
use Rattle.store_folder.specs.FailedBuilding.{not_made}
use Rattle.store_folder.proofs.Entering.{on_err}
use Rattle.store_folder.proofs.FailedRooms.{file_unsynced, file_in_the_way}
use Rattle.store_folder.proofs.building.put_file.Goals as goal

pub returns-in_err-file-clause-fails : goal.returns-in_err-file-clause-fails
returns-in_err-file-clause-fails g c = on_err c.from_residual.result _ (not_made c.in_err-file.field-0.0 (search rules))

pub returns-in-Some-clause-fails : goal.returns-in-Some-clause-fails
returns-in-Some-clause-fails g c = file_unsynced (g.C.Calls.log c.args.calls.now) (g.C.Calls.log c.create.new.self) (g.C.Calls.log c.sync.new.self) c.args.path.now c.in-Some.file c.sync.result (search rules) c.sync.ensures.call

pub returns-in-None-clause-fails : goal.returns-in-None-clause-fails
returns-in-None-clause-fails g c = file_in_the_way (g.C.Calls.log c.args.calls.now) (g.C.Calls.log c.create.new.self) (g.C.Calls.log c.old_file.new.calls) c.args.path.now c.old_file.result (search rules) c.old_file.ensures.fails
