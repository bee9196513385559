use Rattle.std.proofs.Common.{[], ◌∷◌, false, Ok, rules}
use Rattle.std.specs.Prelude.{string_bytes}
use Rattle.folder_calls.specs.declared.reason.Kind.TheVariants.{Folder}
use Rattle.folder_calls.specs.Calls.{Makes, looked_at, made_folder}
use Rattle.store_folder.proofs.Entering.{on_err, behind, look_by_path, no_entry, no_folder_there}
use Rattle.store_folder.specs.Failing.{no_room, not_made, not_synced, no_folder}
use Rattle.store_folder.proofs.folders.add_folder.Goals as goal

pub returns-in_err-enter_room-clause-fails : goal.returns-in_err-enter_room-clause-fails
returns-in_err-enter_room-clause-fails g c =
    let look = c.in_err-enter_room.ensures.fails in
    on_err c.from_residual.result _ (no_room look.0 look.1 look.2)

pub returns-in_err-make_folder-clause-fails : goal.returns-in_err-make_folder-clause-fails
returns-in_err-make_folder-clause-fails g c = on_err c.from_residual-in_err-make_folder.result _ (not_made c.in_err-make_folder.field-0.0 (search rules))

pub returns-in_err-sync_folder-clause-fails : goal.returns-in_err-sync_folder-clause-fails
returns-in_err-sync_folder-clause-fails g c = on_err c.from_residual-in_err-sync_folder.result _ (not_synced c.in_err-sync_folder.field-0.0 (search rules))

pub returns-in_err-is_folder-clause-fails : goal.returns-in_err-is_folder-clause-fails
returns-in_err-is_folder-clause-fails g c =
    let look = c.in_err-is_folder.ensures.fails in
    let folder = string_bytes c.args.spot.now.folder in
    let made : Makes (looked_at (string_bytes c.args.spot.now.room) (Ok Folder) ∷ made_folder folder (Ok false) ∷ []) (g.C.Calls.log c.args.calls.now) (g.C.Calls.log c.make_folder.new.self) = search rules in
    on_err c.from_residual-in_err-is_folder.result _ (no_folder look.0 (no_entry look.0 look.1) (behind _ _ _ (looked_at folder look.0) (look_by_path _ _ c.as_str-2.result.now folder look.0 c.as_str-2.ensures.value look.2) made))

pub returns-else-branch-2-clause-fails : goal.returns-else-branch-2-clause-fails
returns-else-branch-2-clause-fails g c =
    let lacks = c.is_folder.ensures.lacking (search rules) in
    let folder = string_bytes c.args.spot.now.folder in
    let made : Makes (looked_at (string_bytes c.args.spot.now.room) (Ok Folder) ∷ made_folder folder (Ok false) ∷ []) (g.C.Calls.log c.args.calls.now) (g.C.Calls.log c.make_folder.new.self) = search rules in
    no_folder (Ok lacks.0) (no_folder_there lacks.0 lacks.1) (behind _ _ _ (looked_at folder (Ok lacks.0)) (look_by_path _ _ c.as_str-2.result.now folder (Ok lacks.0) c.as_str-2.ensures.value lacks.2) made)
