use Rattle.std.proofs.Common.{refl, rules}
use Rattle.store_folder.specs.FailedListing.{uncalled, not_looked}
use Rattle.store_folder.proofs.Entering.{if_err}
use Rattle.store_folder.proofs.rooms.is_room.Goals as goal

pub returns-in_err-path-clause-fails : goal.returns-in_err-path-clause-fails
returns-in_err-path-clause-fails g c = if_err c.from_residual.result c.in_err-path.field-0.0 _ (search rules) (uncalled (search rules) c.in_err-path.ensures.memory refl)

pub returns-in_err-kind-clause-fails : goal.returns-in_err-kind-clause-fails
returns-in_err-kind-clause-fails g c = if_err c.from_residual-in_err-kind.result c.in_err-kind.field-0.0 _ (search rules) (not_looked c.in_err-kind.field-0.0 (search rules) c.in_err-kind.ensures.failed (search rules))
