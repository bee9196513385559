use Rattle.actor_core.proofs.Along.{flatten_along, recover_along, truncate_along}
use Rattle.actor_core.proofs.laws.truncates_flattenings_and_recoveries_ask_along.Goals as goal

pub returns : goal.returns
returns c = record { truncate = truncate_along; flatten = flatten_along; recover = recover_along }
