use Rattle.plain_plays.proofs.PlainSteps.Looks.Telling.{tell_takes}
use Rattle.plain_plays.proofs.PlainSteps.Looks.Works.{tell_work}
use Rattle.plain_plays.proofs.plain_laws.tellings_are_steps.Goals as goal

pub returns-clause-steps : goal.returns-clause-steps
returns-clause-steps c = λ m me p handle actor declared name events out lawful well by o has runs. tell_takes m me p handle actor declared name o has events out lawful well by runs

pub returns-clause-calls : goal.returns-clause-calls
returns-clause-calls c = tell_work
