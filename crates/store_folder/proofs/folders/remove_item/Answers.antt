use Rattle.std.proofs.Common.{rules}
use Rattle.store_folder.proofs.Entering.{if_err}
use Rattle.store_folder.specs.Failing.{no_room, not_removed, not_synced}
use Rattle.store_folder.proofs.folders.remove_item.Goals as goal

pub returns-in_err-enter_room-clause-fails : goal.returns-in_err-enter_room-clause-fails
returns-in_err-enter_room-clause-fails g c =
    let look = c.in_err-enter_room.ensures.fails in
    if_err c.from_residual.result c.in_err-enter_room.field-0.0 _ (search rules) (no_room look.0 c.in_err-enter_room.ensures.failed look.1 look.2)

pub returns-in_err-remove_folder-clause-fails : goal.returns-in_err-remove_folder-clause-fails
returns-in_err-remove_folder-clause-fails g c =
    if_err c.from_residual-in_err-remove_folder.result c.in_err-remove_folder.field-0.0 _ (search rules) (not_removed c.in_err-remove_folder.field-0.0 c.in_err-remove_folder.ensures.failed (search rules))

pub returns-in_err-sync_folder-in-Removed-clause-fails : goal.returns-in_err-sync_folder-in-Removed-clause-fails
returns-in_err-sync_folder-in-Removed-clause-fails g c =
    if_err c.from_residual-in_err-sync_folder-in-Removed.result c.in_err-sync_folder-in-Removed.field-0.0 _ (search rules) (not_synced c.in_err-sync_folder-in-Removed.field-0.0 c.in_err-sync_folder-in-Removed.ensures.failed (search rules))
