use Rattle.std.proofs.Common.{◌∙◌, refl, rules}
use Rattle.store_folder.specs.FailedBuilding.{starved}
use Rattle.store_folder.proofs.Entering.{if_err}
use Rattle.store_folder.proofs.FailedRooms.{file_unbuilt}
use Rattle.store_folder.proofs.building.build_file.Goals as goal

pub returns-in_err-path-clause-fails : goal.returns-in_err-path-clause-fails
returns-in_err-path-clause-fails g c named = if_err c.from_residual.result c.in_err-path.field-0.0 _ (search rules) (starved (c.in_err-path.ensures.memory named) refl)

pub returns-clause-fails : goal.returns-clause-fails
returns-clause-fails g c named = file_unbuilt _ _ c.args.new.now c.args.file.now c.as_str.result.now c.put_file-put.result (c.as_str.ensures.value ∙ c.in_ok-path.ensures.path) c.put_file-put.ensures.failed c.put_file-put.ensures.fails
