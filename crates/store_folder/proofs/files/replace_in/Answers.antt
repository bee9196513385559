use Rattle.std.proofs.Common.{inr}
use Rattle.store_folder.proofs.Entering.{if_err_map, with_failed}
use Rattle.store_folder.proofs.files.replace_in.Goals as goal

pub returns-clause-fails : goal.returns-clause-fails
returns-clause-fails g c =
    if_err_map c.rename_in-answer.result _ _ (λ failure fails. inr fails) (with_failed c.rename_in-answer.result _ _ c.rename_in-answer.ensures.failed c.rename_in-answer.ensures.fails)
