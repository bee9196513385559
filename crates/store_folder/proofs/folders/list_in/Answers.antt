use Rattle.std.proofs.Common.{rules}
use Rattle.store_folder.proofs.Entering.{if_err}
use Rattle.store_folder.specs.Failing.{not_entered, not_listed}
use Rattle.store_folder.proofs.folders.list_in.Goals as goal

pub returns-in_err-enter-clause-fails : goal.returns-in_err-enter-clause-fails
returns-in_err-enter-clause-fails g c = if_err c.from_residual.result c.in_err-enter.field-0.0 _ (search rules) (not_entered c.in_err-enter.ensures.failed c.in_err-enter.ensures.fails)

pub returns-in_err-names-clause-fails : goal.returns-in_err-names-clause-fails
returns-in_err-names-clause-fails g c = if_err c.from_residual-in_err-names.result c.in_err-names.field-0.0 _ (search rules) (not_listed (search rules))
