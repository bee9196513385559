use Rattle.std.proofs.Common.{[], ◌∷◌, None, Ok, rules}
use Rattle.std.specs.Prelude.{string_bytes}
use Rattle.folder_calls.specs.declared.reason.Kind.TheVariants.{Folder}
use Rattle.folder_calls.specs.Calls.{Makes, looked_at, created_file}
use Rattle.store_folder.specs.Paths.{item_of}
use Rattle.store_folder.proofs.Entering.{on_err, behind, look_by_path}
use Rattle.store_folder.specs.Failing.{not_entered, not_made, not_synced, no_file}
use Rattle.store_folder.proofs.files.create_in.Goals as goal

pub returns-in_err-enter-clause-fails : goal.returns-in_err-enter-clause-fails
returns-in_err-enter-clause-fails g c = on_err c.from_residual.result _ (not_entered c.in_err-enter.ensures.fails)

pub returns-in_err-file-clause-fails : goal.returns-in_err-file-clause-fails
returns-in_err-file-clause-fails g c = on_err c.from_residual-in_err-file.result _ (not_made c.in_err-file.field-0.0 (search rules))

pub returns-in_err-old_file-in-None-clause-fails : goal.returns-in_err-old_file-in-None-clause-fails
returns-in_err-old_file-in-None-clause-fails g c =
    let look = c.in_err-old_file-in-None.ensures.fails in
    let room = string_bytes c.args.spot.now.room in
    let folder = string_bytes c.args.spot.now.folder in
    let path = item_of folder c.args.key.now.file in
    let made : Makes (looked_at room (Ok Folder) ∷ looked_at folder (Ok Folder) ∷ created_file path (Ok None) ∷ []) (g.C.Calls.log c.args.calls.now) (g.C.Calls.log c.create.new.self) = search rules in
    on_err c.from_residual-in_err-old_file-in-None.result _ (no_file look.0 look.1 (behind _ _ _ (looked_at path look.0) (look_by_path _ _ c.args.path.now path look.0 c.requires.path look.2) made))

pub returns-in-Err-clause-fails : goal.returns-in-Err-clause-fails
returns-in-Err-clause-fails g c = not_synced c.in-Some.file c.in-Err.failure (search rules)
