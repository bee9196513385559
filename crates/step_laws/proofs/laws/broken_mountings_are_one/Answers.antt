use Rattle.step_laws.proofs.Failing.{fails_one, mounts_or_fails}
use Rattle.step_laws.proofs.laws.broken_mountings_are_one.Goals as goal

pub returns-clause-one : goal.returns-clause-one
returns-clause-one c = λ opened left other why also told free quiet quiet_too fed fed_too a b. fails_one opened told free left other why also quiet quiet_too fed fed_too a b

pub returns-clause-none : goal.returns-clause-none
returns-clause-none c = λ serial times opened left why new told free quiet fed m a. mounts_or_fails opened told free left why quiet fed serial times new m a
