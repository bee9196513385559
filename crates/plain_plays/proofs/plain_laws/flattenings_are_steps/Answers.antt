use Rattle.plain_plays.proofs.PlainSteps.Flats.Flattening.{flatten_takes}
use Rattle.plain_plays.proofs.plain_laws.flattenings_are_steps.Goals as goal

pub returns : goal.returns
returns c = λ m me p handle actor declared name events out lawful well by o has runs. flatten_takes me p handle actor declared name m o has events out lawful well by runs
