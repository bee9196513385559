use Rattle.plain_plays.proofs.PlainSteps.Plainly.{closes_plainly, syncs_plainly}
use Rattle.plain_plays.proofs.PlainSteps.WritingPlainly.{writes_plainly}
use Rattle.plain_plays.proofs.plain_laws.writers_are_plain.Goals as goal

pub returns-clause-syncs : goal.returns-clause-syncs
returns-clause-syncs c = λ m me number w. syncs_plainly me number w m

pub returns-clause-writes : goal.returns-clause-writes
returns-clause-writes c = λ m me number w. writes_plainly me number w m

pub returns-clause-closes : goal.returns-clause-closes
returns-clause-closes c = λ m me number w. closes_plainly me number w m
