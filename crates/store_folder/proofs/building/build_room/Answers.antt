use Rattle.std.proofs.Common.{refl, rules}
use Rattle.std.proofs.lemmas.Bool.{false≢true}
use Rattle.store_folder.specs.FailedBuilding.{uncalled, no_place}
use Rattle.store_folder.proofs.Clearing.{clears_up}
use Rattle.store_folder.proofs.Entering.{if_err}
use Rattle.store_folder.proofs.FailedRooms.{room_unfilled}
use Rattle.store_folder.proofs.building.build_room.Goals as goal

pub returns-in_err-check_parts-clause-fails : goal.returns-in_err-check_parts-clause-fails
returns-in_err-check_parts-clause-fails g c = if_err c.from_residual.result c.in_err-check_parts.field-0.0 _ (search rules) (uncalled (λ with_folders with_files. absurd (false≢true (c.in_err-check_parts.ensures.only with_folders))) refl)

pub returns-in_err-check_parts-2-clause-fails : goal.returns-in_err-check_parts-2-clause-fails
returns-in_err-check_parts-2-clause-fails g c =
    if_err c.from_residual-in_err-check_parts-2.result c.in_err-check_parts-2.field-0.0 _ (search rules) (uncalled (λ with_folders with_files. absurd (false≢true (c.in_err-check_parts-2.ensures.only with_files))) refl)

pub returns-in_err-new-clause-fails : goal.returns-in_err-new-clause-fails
returns-in_err-new-clause-fails g c = if_err c.from_residual-in_err-new.result c.in_err-new.field-0.0 _ (search rules) (no_place c.in_err-new.ensures.fails)

pub returns-in-Err-clause-fails : goal.returns-in-Err-clause-fails
returns-in-Err-clause-fails g c =
    room_unfilled _ _ c.args.root.now c.args.path.now _ c.as_str.result.now c.as_str-in-Err.result.now c.args.folders.now c.args.files.now _ _ c.in-Err.failure c.as_str.ensures.value c.as_str-in-Err.ensures.value c.in_ok-new.ensures.taken (c.in-Err.ensures.fails c.in_ok-check_parts.ensures.parts c.in_ok-check_parts-2.ensures.parts) (clears_up _ _ c.as_str-in-Err.result.now c.clear.result c.clear.ensures.cleared c.clear.ensures.fails)
