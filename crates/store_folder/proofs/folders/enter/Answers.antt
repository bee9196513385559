use Rattle.std.specs.Prelude.{string_bytes}
use Rattle.store_folder.specs.Folders.{at_room}
use Rattle.store_folder.proofs.Entering.{on_err, on_err_map, stops_at_folder}
use Rattle.store_folder.proofs.folders.enter.Goals as goal

pub returns-in_err-enter_room-clause-fails : goal.returns-in_err-enter_room-clause-fails
returns-in_err-enter_room-clause-fails g c =
    let look = c.in_err-enter_room.ensures.fails in on_err c.from_residual.result _ (at_room look.0 look.1 look.2)

pub returns-clause-fails : goal.returns-clause-fails
returns-clause-fails g c =
    on_err_map c.is_folder.result _ _ (λ look. stops_at_folder _ _ _ (string_bytes c.args.spot.now.room) (string_bytes c.args.spot.now.folder) c.as_str.result.now look.0 c.as_str.ensures.value c.in_ok-enter_room.ensures.there look.1 look.2) c.is_folder.ensures.fails
