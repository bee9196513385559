use Rattle.std.proofs.Common.{◌+◌, refl, rules}
use Rattle.std.proofs.lemmas.Option.{slice_get_read}
use Rattle.store_folder.specs.FailedListing.{starved, not_looked_for}
use Rattle.store_folder.proofs.Entering.{if_err}
use Rattle.store_folder.proofs.Finding.{goes_on, all_found}
use Rattle.store_folder.proofs.rooms.rooms_among.Goals as goal

pub loop-name-preserved : goal.loop-name-preserved
loop-name-preserved g c =
    record {
      found = goes_on c.args.root.now c.args.names.now c.loop-name.name-index c.name-item.result c.in_ok-is_room.is_room c.loop-name.rooms.items _ _ _ _ c.loop-name-test.true c.name-item.is c.loop-name.invariant.found c.in_ok-is_room.ensures.looked c.in_ok-push_room.ensures.pushed;
    }

pub returns-in_err-is_room-clause-fails : goal.returns-in_err-is_room-clause-fails
returns-in_err-is_room-clause-fails g c =
    if_err c.from_residual.result c.in_err-is_room.field-0.0 _ (search rules) (not_looked_for c.loop-name.name-index c.name-item.result c.loop-name.rooms.items _ (slice_get_read c.args.names.now _ c.loop-name.name-index c.name-item.result refl c.loop-name-test.true c.name-item.is) c.loop-name.invariant.found c.in_err-is_room.ensures.fails)

pub returns-in_err-push_room-clause-fails : goal.returns-in_err-push_room-clause-fails
returns-in_err-push_room-clause-fails g c =
    if_err c.from_residual-in_err-push_room.result c.in_err-push_room.field-0.0 _ (search rules) (starved (c.loop-name.name-index + 1) _ c.in_err-push_room.ensures.memory (goes_on c.args.root.now c.args.names.now c.loop-name.name-index c.name-item.result c.in_ok-is_room.is_room c.loop-name.rooms.items _ _ _ _ c.loop-name-test.true c.name-item.is c.loop-name.invariant.found c.in_ok-is_room.ensures.looked refl))

pub returns-clause-found : goal.returns-clause-found
returns-clause-found g c = all_found c.args.root.now c.args.names.now c.loop-name.name-index c.loop-name.rooms.items _ _ c.loop-name-test.false c.loop-name.invariant.found
