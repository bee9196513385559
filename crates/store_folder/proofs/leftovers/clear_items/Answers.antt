use Rattle.std.proofs.Common.{rules}
use Rattle.store_folder.specs.FailedClearing.{FailsToClearItem}
use Rattle.store_folder.specs.Leftovers.{ClearsItem}
use Rattle.store_folder.proofs.Entering.{if_err}
use Rattle.store_folder.proofs.ForEach.{goes_on, all_made, fails_at}
use Rattle.store_folder.proofs.leftovers.clear_items.Goals as goal

pub loop-name-preserved : goal.loop-name-preserved
loop-name-preserved g c =
    record {
      made = goes_on (ClearsItem c.args.folder.now) c.args.names.now c.loop-name.name-index c.name-item.result _ _ _ c.loop-name-test.true c.name-item.is c.loop-name.invariant.made c.in_ok-clear_item.ensures.cleared;
    }

pub returns-in_err-clear_item-clause-fails : goal.returns-in_err-clear_item-clause-fails
returns-in_err-clear_item-clause-fails g c =
    let failure = c.in_err-clear_item.field-0.0 in
    if_err c.from_residual.result failure _ (search rules) (fails_at (ClearsItem c.args.folder.now) c.args.names.now (FailsToClearItem c.args.folder.now failure) c.loop-name.name-index c.name-item.result _ _ _ c.loop-name-test.true c.name-item.is c.loop-name.invariant.made c.in_err-clear_item.ensures.fails)

pub returns-clause-cleared : goal.returns-clause-cleared
returns-clause-cleared g c = all_made (ClearsItem c.args.folder.now) c.args.names.now c.loop-name.name-index _ _ c.loop-name-test.false c.loop-name.invariant.made
