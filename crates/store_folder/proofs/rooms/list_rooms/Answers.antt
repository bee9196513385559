use Rattle.std.proofs.Common.{List, ℕ, subst, rules}
use Rattle.store_folder.specs.FailedListing.{FailsToFindRooms, not_listed, not_found}
use Rattle.store_folder.proofs.Entering.{if_err}
use Rattle.store_folder.proofs.rooms.list_rooms.Goals as goal

pub returns-in_err-names-clause-fails : goal.returns-in_err-names-clause-fails
returns-in_err-names-clause-fails g c = if_err c.from_residual.result c.in_err-names.field-0.0 _ (search rules) (not_listed (search rules))

pub returns-in_err-rooms-clause-fails : goal.returns-in_err-rooms-clause-fails
returns-in_err-rooms-clause-fails g c =
    let Among : List (List ℕ) → Type 0 = λ names. FailsToFindRooms c.args.root.now names (g.C.Calls.log c.list.new.self) (g.C.Calls.log c.rooms_among.new.calls) c.in_err-rooms.field-0.0 in
    if_err c.from_residual-in_err-rooms.result c.in_err-rooms.field-0.0 _ (search rules) (not_found c.in_ok-names.names (g.C.Calls.log c.list.new.self) (search rules) (subst Among c.as_slice.ensures c.in_err-rooms.ensures.fails))
