use Rattle.std.proofs.Common.{rules}
use Rattle.store_folder.specs.FailedBuilding.{FailsToBuildFile}
use Rattle.store_folder.specs.NewRooms.{BuildsFile}
use Rattle.store_folder.specs.Paths.{IsNameable}
use Rattle.store_folder.proofs.Entering.{if_err}
use Rattle.store_folder.proofs.ForEach.{goes_on, all_made, fails_at, of_next}
use Rattle.store_folder.proofs.building.build_files.Goals as goal

pub loop-file-preserved : goal.loop-file-preserved
loop-file-preserved g c =
    record {
      made = goes_on (BuildsFile c.args.new.now) c.args.files.now c.loop-file.file-index c.file-item.result _ _ _ c.loop-file-test.true c.file-item.is c.loop-file.invariant.made c.in_ok-build_file.ensures.built;
    }

pub returns-in_err-build_file-clause-fails : goal.returns-in_err-build_file-clause-fails
returns-in_err-build_file-clause-fails g c named =
    let failure = c.in_err-build_file.field-0.0 in
    if_err c.from_residual.result failure _ (search rules) (fails_at (BuildsFile c.args.new.now) c.args.files.now (FailsToBuildFile c.args.new.now failure) c.loop-file.file-index c.file-item.result _ _ _ c.loop-file-test.true c.file-item.is c.loop-file.invariant.made (c.in_err-build_file.ensures.fails (of_next IsNameable c.args.files.now c.loop-file.file-index c.file-item.result c.loop-file-test.true c.file-item.is named)))

pub returns-clause-built : goal.returns-clause-built
returns-clause-built g c = all_made (BuildsFile c.args.new.now) c.args.files.now c.loop-file.file-index _ _ c.loop-file-test.false c.loop-file.invariant.made
