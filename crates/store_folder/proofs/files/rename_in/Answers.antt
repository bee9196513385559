use Rattle.std.proofs.Common.{Ok, Err, rules}
use Rattle.folder_calls.specs.declared.reason.Kind.TheVariants.{Folder, Other}
use Rattle.store_folder.proofs.Entering.{on_err}
use Rattle.store_folder.specs.Failing.{not_entered, no_file, not_renamed, not_synced}
use Rattle.store_folder.proofs.files.rename_in.Goals as goal

pub returns-in_err-enter-clause-fails : goal.returns-in_err-enter-clause-fails
returns-in_err-enter-clause-fails g c = on_err c.from_residual.result _ (not_entered c.in_err-enter.ensures.fails)

pub returns-in_err-look-clause-fails : goal.returns-in_err-look-clause-fails
returns-in_err-look-clause-fails g c = on_err c.from_residual-in_err-look.result _ (no_file (Err c.in_err-look.field-0.0) tt (search rules))

pub returns-in-Folder-clause-fails : goal.returns-in-Folder-clause-fails
returns-in-Folder-clause-fails g c = no_file (Ok Folder) tt (search rules)

pub returns-in-Other-clause-fails : goal.returns-in-Other-clause-fails
returns-in-Other-clause-fails g c = no_file (Ok Other) tt (search rules)

pub returns-in_err-rename-clause-fails : goal.returns-in_err-rename-clause-fails
returns-in_err-rename-clause-fails g c = on_err c.from_residual-in_err-rename.result _ (not_renamed c.in-File.len c.in_err-rename.field-0.0 (search rules) (search rules))

pub returns-in_err-sync_folder-clause-fails : goal.returns-in_err-sync_folder-clause-fails
returns-in_err-sync_folder-clause-fails g c = on_err c.from_residual-in_err-sync_folder.result _ (not_synced c.in-File.len c.in_err-sync_folder.field-0.0 (search rules) (search rules))
