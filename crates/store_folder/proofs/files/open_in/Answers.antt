use Rattle.std.proofs.Common.{rules}
use Rattle.store_folder.specs.Files.{entering, opening, measuring}
use Rattle.store_folder.proofs.Entering.{if_err}
use Rattle.store_folder.proofs.files.open_in.Goals as goal

pub returns-in_err-enter-clause-fails : goal.returns-in_err-enter-clause-fails
returns-in_err-enter-clause-fails g c = if_err c.from_residual.result c.in_err-enter.field-0.0 _ (search rules) (entering c.in_err-enter.ensures.failed c.in_err-enter.ensures.fails)

pub returns-in_err-file-clause-fails : goal.returns-in_err-file-clause-fails
returns-in_err-file-clause-fails g c = if_err c.from_residual-in_err-file.result c.in_err-file.field-0.0 _ (search rules) (opening (search rules))

pub returns-in_err-new-in-Some-clause-fails : goal.returns-in_err-new-in-Some-clause-fails
returns-in_err-new-in-Some-clause-fails g c =
    if_err c.from_residual-in_err-new-in-Some.result c.in_err-new-in-Some.field-0.0 _ (search rules) (measuring c.in-Some.file (search rules))
