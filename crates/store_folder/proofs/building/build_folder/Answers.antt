use Rattle.std.proofs.Common.{◌∙◌, [], ◌∷◌, List, ℕ, refl, subst, rules}
use Rattle.folder_calls.specs.Calls.{Makes, synced_folder}
use Rattle.store_folder.specs.FailedBuilding.{starved, not_made}
use Rattle.store_folder.proofs.Entering.{if_err}
use Rattle.store_folder.proofs.FailedRooms.{folder_unsynced}
use Rattle.store_folder.proofs.building.build_folder.Goals as goal

pub returns-in_err-path-clause-fails : goal.returns-in_err-path-clause-fails
returns-in_err-path-clause-fails g c named = if_err c.from_residual.result c.in_err-path.field-0.0 _ (search rules) (starved (c.in_err-path.ensures.memory named) refl)

pub returns-in_err-make_folder-clause-fails : goal.returns-in_err-make_folder-clause-fails
returns-in_err-make_folder-clause-fails g c named =
    if_err c.from_residual-in_err-make_folder.result c.in_err-make_folder.field-0.0 _ (search rules) (not_made c.in_err-make_folder.field-0.0 c.in_err-make_folder.ensures.failed (search rules))

pub returns-clause-fails : goal.returns-clause-fails
returns-clause-fails g c named =
    let Syncs : List ℕ → Type 0 = λ path. Makes (synced_folder path c.sync_folder.result ∷ []) (g.C.Calls.log c.make_folder.new.self) (g.C.Calls.log c.sync_folder.new.self) in
    folder_unsynced (g.C.Calls.log c.args.calls.now) (g.C.Calls.log c.make_folder.new.self) (g.C.Calls.log c.sync_folder.new.self) c.args.new.now c.args.folder.now c.in_ok-make_folder.field-0 c.sync_folder.result (search rules) c.sync_folder.ensures.failed (subst Syncs (c.as_str-2.ensures.value ∙ c.in_ok-path.ensures.path) c.sync_folder.ensures.call)
