use Rattle.std.proofs.Common.{rules}
use Rattle.store_folder.specs.FailedClearing.{not_looked, folder_stays, file_stays}
use Rattle.store_folder.proofs.Entering.{on_err}
use Rattle.store_folder.proofs.leftovers.remove_leftover.Goals as goal

pub returns-in_err-look-clause-fails : goal.returns-in_err-look-clause-fails
returns-in_err-look-clause-fails g c = on_err c.from_residual.result _ (not_looked c.in_err-look.field-0.0 (search rules))

pub returns-in_err-remove_folder-in-Folder-clause-fails : goal.returns-in_err-remove_folder-in-Folder-clause-fails
returns-in_err-remove_folder-in-Folder-clause-fails g c = on_err c.from_residual-in_err-remove_folder-in-Folder.result _ (folder_stays c.in_err-remove_folder-in-Folder.field-0.0 (search rules))

pub returns-in_err-remove_file-in-File-eq0-clause-fails : goal.returns-in_err-remove_file-in-File-eq0-clause-fails
returns-in_err-remove_file-in-File-eq0-clause-fails g c = on_err c.from_residual-in_err-remove_file-in-File-eq0.result _ (file_stays c.in_err-remove_file-in-File-eq0.field-0.0 (search rules))
