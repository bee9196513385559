use Rattle.std.proofs.Common.{rules}
use Rattle.store_folder.specs.FailedBuilding.{FailsToBuildFolder}
use Rattle.store_folder.specs.NewRooms.{BuildsFolder}
use Rattle.store_folder.specs.Paths.{IsNameable}
use Rattle.store_folder.proofs.Entering.{if_err}
use Rattle.store_folder.proofs.ForEach.{goes_on, all_made, fails_at, of_next}
use Rattle.store_folder.proofs.building.build_folders.Goals as goal

pub loop-folder-preserved : goal.loop-folder-preserved
loop-folder-preserved g c =
    record {
      made = goes_on (BuildsFolder c.args.new.now) c.args.folders.now c.loop-folder.folder-index c.folder-item.result _ _ _ c.loop-folder-test.true c.folder-item.is c.loop-folder.invariant.made c.in_ok-build_folder.ensures.built;
    }

pub returns-in_err-build_folder-clause-fails : goal.returns-in_err-build_folder-clause-fails
returns-in_err-build_folder-clause-fails g c named =
    let failure = c.in_err-build_folder.field-0.0 in
    if_err c.from_residual.result failure _ (search rules) (fails_at (BuildsFolder c.args.new.now) c.args.folders.now (FailsToBuildFolder c.args.new.now failure) c.loop-folder.folder-index c.folder-item.result _ _ _ c.loop-folder-test.true c.folder-item.is c.loop-folder.invariant.made (c.in_err-build_folder.ensures.fails (of_next IsNameable c.args.folders.now c.loop-folder.folder-index c.folder-item.result c.loop-folder-test.true c.folder-item.is named)))

pub returns-clause-built : goal.returns-clause-built
returns-clause-built g c = all_made (BuildsFolder c.args.new.now) c.args.folders.now c.loop-folder.folder-index _ _ c.loop-folder-test.false c.loop-folder.invariant.made
