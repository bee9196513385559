use Rattle.std.proofs.Common.{rules}
use Rattle.store_folder.proofs.Entering.{if_err}
use Rattle.store_folder.specs.Failing.{no_room}
use Rattle.store_folder.proofs.folders.remove_top.Goals as goal

pub returns-in_err-enter_room-clause-fails : goal.returns-in_err-enter_room-clause-fails
returns-in_err-enter_room-clause-fails g c =
    let look = c.in_err-enter_room.ensures.fails in
    if_err c.from_residual.result c.in_err-enter_room.field-0.0 _ (search rules) (no_room look.0 c.in_err-enter_room.ensures.failed look.1 look.2)
