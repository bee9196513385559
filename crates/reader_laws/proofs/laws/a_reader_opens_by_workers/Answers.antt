use Rattle.reader_laws.proofs.OpenReaders.Workers.{opens_each, opens_joined}
use Rattle.reader_laws.proofs.laws.a_reader_opens_by_workers.Goals as goal

pub returns-clause-each : goal.returns-clause-each
returns-clause-each c = opens_each

pub returns-clause-joined : goal.returns-clause-joined
returns-clause-joined c = opens_joined
