use Rattle.plain_plays.proofs.PlainSteps.Serving.{closes_well, syncs_well, writes_well}
use Rattle.plain_plays.proofs.plain_laws.open_writers_are_served.Goals as goal

pub returns-clause-syncs : goal.returns-clause-syncs
returns-clause-syncs c = syncs_well

pub returns-clause-writes : goal.returns-clause-writes
returns-clause-writes c = writes_well

pub returns-clause-closes : goal.returns-clause-closes
returns-clause-closes c = closes_well
