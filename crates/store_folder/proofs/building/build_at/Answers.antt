use Rattle.std.proofs.Common.{rules}
use Rattle.store_folder.specs.FailedBuilding.{no_folder, no_file, not_synced}
use Rattle.store_folder.proofs.Entering.{if_err}
use Rattle.store_folder.proofs.FailedRooms.{folder_unmoved}
use Rattle.store_folder.proofs.building.build_at.Goals as goal

pub returns-in_err-build_folders-clause-fails : goal.returns-in_err-build_folders-clause-fails
returns-in_err-build_folders-clause-fails g c with_folders with_files = if_err c.from_residual.result c.in_err-build_folders.field-0.0 _ (search rules) (no_folder (c.in_err-build_folders.ensures.fails with_folders))

pub returns-in_err-build_files-clause-fails : goal.returns-in_err-build_files-clause-fails
returns-in_err-build_files-clause-fails g c with_folders with_files =
    if_err c.from_residual-in_err-build_files.result c.in_err-build_files.field-0.0 _ (search rules) (no_file _ c.in_ok-build_folders.ensures.built (c.in_err-build_files.ensures.fails with_files))

pub returns-in_err-sync_folder-clause-fails : goal.returns-in_err-sync_folder-clause-fails
returns-in_err-sync_folder-clause-fails g c with_folders with_files =
    if_err c.from_residual-in_err-sync_folder.result c.in_err-sync_folder.field-0.0 _ (search rules) (not_synced _ _ c.in_err-sync_folder.field-0.0 c.in_err-sync_folder.ensures.failed c.in_ok-build_folders.ensures.built c.in_ok-build_files.ensures.built (search rules))

pub returns-clause-fails : goal.returns-clause-fails
returns-clause-fails g c with_folders with_files =
    folder_unmoved _ _ _ c.args.new.now c.args.path.now c.args.folders.now c.args.files.now _ _ c.rename.result c.in_ok-build_folders.ensures.built c.in_ok-build_files.ensures.built (search rules) c.rename.ensures.failed c.rename.ensures.call
