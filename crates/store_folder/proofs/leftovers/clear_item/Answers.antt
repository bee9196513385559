use Rattle.std.proofs.Common.{◌∙◌, refl, rules}
use Rattle.store_folder.specs.FailedClearing.{uncalled}
use Rattle.store_folder.proofs.Clearing.{item_stays}
use Rattle.store_folder.proofs.Entering.{if_err}
use Rattle.store_folder.proofs.leftovers.clear_item.Goals as goal

pub returns-in_err-path-clause-fails : goal.returns-in_err-path-clause-fails
returns-in_err-path-clause-fails g c = if_err c.from_residual.result c.in_err-path.field-0.0 _ (search rules) (uncalled c.in_err-path.ensures.memory refl)

pub returns-clause-fails : goal.returns-clause-fails
returns-clause-fails g c = item_stays _ _ c.args.folder.now c.args.name.now c.as_str.result.now c.remove_leftover-cleared.result (c.as_str.ensures.value ∙ c.in_ok-path.ensures.path) c.remove_leftover-cleared.ensures.failed c.remove_leftover-cleared.ensures.fails
