use Rattle.headline_laws.proofs.OrderlyLines.Orderly.{orderly, play_orderly}
use Rattle.headline_laws.proofs.laws.lines_are_orderly.Goals as goal

pub returns-clause-right : goal.returns-clause-right
returns-clause-right c = orderly

pub returns-clause-played : goal.returns-clause-played
returns-clause-played c = play_orderly
