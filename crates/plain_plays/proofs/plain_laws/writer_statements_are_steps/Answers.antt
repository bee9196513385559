use Rattle.plain_plays.proofs.PlainSteps.Steps.Joining.{open_takes}
use Rattle.plain_plays.proofs.PlainSteps.Steps.Keeping.{sync_takes, write_steps}
use Rattle.plain_plays.proofs.PlainSteps.Steps.Leave.{close_takes}
use Rattle.plain_plays.proofs.plain_laws.writer_statements_are_steps.Goals as goal

pub returns-clause-opens : goal.returns-clause-opens
returns-clause-opens c = λ m me p actor declared name events out lawful well by o has runs. open_takes m me p actor o has declared name events out lawful well by runs

pub returns-clause-writes : goal.returns-clause-writes
returns-clause-writes c = write_steps

pub returns-clause-syncs : goal.returns-clause-syncs
returns-clause-syncs c = λ m me p handle actor declared events out lawful well by o has runs. sync_takes m me p handle actor o has declared events out lawful well by runs

pub returns-clause-closes : goal.returns-clause-closes
returns-clause-closes c = λ m me p handle actor declared events out lawful well by o has runs. close_takes m me p handle actor o has declared events out lawful well by runs
