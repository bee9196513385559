use Rattle.spread_store.proofs.Lost.{trees_lost, fits_lost}
use Rattle.spread_store.proofs.losses.losses_join.Goals as goal

pub returns-clause-loses : goal.returns-clause-loses
returns-clause-loses c = λ old new places doubt tree lost told. trees_lost old new places doubt tree lost told

pub returns-clause-fit : goal.returns-clause-fit
returns-clause-fit c = λ old new places doubt lost fit. fits_lost old new places doubt lost fit
