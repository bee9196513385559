use Rattle.std.proofs.Common.{rules}
use Rattle.store_folder.proofs.Entering.{on_err}
use Rattle.store_folder.specs.Failing.{not_entered, not_removed, not_synced}
use Rattle.store_folder.proofs.files.remove_in.Goals as goal

pub returns-in_err-enter-clause-fails : goal.returns-in_err-enter-clause-fails
returns-in_err-enter-clause-fails g c = on_err c.from_residual.result _ (not_entered c.in_err-enter.ensures.fails)

pub returns-in_err-remove_file-clause-fails : goal.returns-in_err-remove_file-clause-fails
returns-in_err-remove_file-clause-fails g c = on_err c.from_residual-in_err-remove_file.result _ (not_removed c.in_err-remove_file.field-0.0 (search rules))

pub returns-in_err-sync_folder-clause-fails : goal.returns-in_err-sync_folder-clause-fails
returns-in_err-sync_folder-clause-fails g c = on_err c.from_residual-in_err-sync_folder.result _ (not_synced c.in_err-sync_folder.field-0.0 (search rules))
