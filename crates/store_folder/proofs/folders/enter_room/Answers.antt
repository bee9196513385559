use Rattle.store_folder.proofs.Entering.{on_err, look_by_path, no_entry}
use Rattle.store_folder.proofs.folders.enter_room.Goals as goal

pub returns-in_err-is_folder-clause-fails : goal.returns-in_err-is_folder-clause-fails
returns-in_err-is_folder-clause-fails g c =
    let look = c.in_err-is_folder.ensures.fails in
    on_err c.from_residual.result _ (look.0, no_entry look.0 look.1, look_by_path _ _ c.as_str.result.now _ look.0 c.as_str.ensures.value look.2)
