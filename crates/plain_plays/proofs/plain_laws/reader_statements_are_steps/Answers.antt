use Rattle.plain_plays.proofs.PlainSteps.Looks.Opening.{opening_takes}
use Rattle.plain_plays.proofs.PlainSteps.Looks.Readers.{close_takes, map_takes, none_takes, read_takes, reader_stays, second_takes, verify_takes}
use Rattle.plain_plays.proofs.PlainSteps.Looks.Refreshing.{refresh_takes}
use Rattle.plain_plays.proofs.plain_laws.reader_statements_are_steps.Goals as goal

pub returns-clause-opens : goal.returns-clause-opens
returns-clause-opens c = λ m me p handle actor declared name workers kept events out lawful well by o has none is some runs. opening_takes m me p handle actor declared name workers kept o has none is events out some lawful well by runs

pub returns-clause-second : goal.returns-clause-second
returns-clause-second c = λ m me p handle actor declared reader file name workers o has is it. second_takes m me p handle actor declared o has reader file is it name workers

pub returns-clause-reads : goal.returns-clause-reads
returns-clause-reads c = λ m me p handle actor declared reader file at len events out lawful well by o has is it runs. read_takes m me p handle actor declared o has reader file is it at len events out lawful well by runs

pub returns-clause-verifies : goal.returns-clause-verifies
returns-clause-verifies c = λ m me p handle actor declared reader file at content events out lawful well by o has is it runs. verify_takes m me p handle actor declared o has reader file is it at content events out lawful well by runs

pub returns-clause-maps : goal.returns-clause-maps
returns-clause-maps c = λ m me p handle actor declared reader file o has is it. map_takes m me p handle actor declared o has reader file is it

pub returns-clause-refreshes : goal.returns-clause-refreshes
returns-clause-refreshes c = λ m me p handle actor declared kept reader file events out lawful well by o has is it runs. refresh_takes m me p handle actor declared kept o has reader file is it events out lawful well by runs

pub returns-clause-closes : goal.returns-clause-closes
returns-clause-closes c = λ m me p handle actor declared reader file o has is it. close_takes m me p handle actor declared o has reader file is it

pub returns-clause-without : goal.returns-clause-without
returns-clause-without c = λ m me p handle actor declared statement o has is none. none_takes m me p handle actor declared o has statement is none

pub returns-clause-stays : goal.returns-clause-stays
returns-clause-stays c = reader_stays
