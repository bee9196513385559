use Rattle.plain_plays.proofs.PlainSteps.Steps.AnyMount.{machine_so}
use Rattle.plain_plays.proofs.PlainSteps.Steps.Begun.{begins_so}
use Rattle.plain_plays.proofs.plain_laws.machines_begin_with_mounts.Goals as goal

pub returns-clause-bare : goal.returns-clause-bare
returns-clause-bare c = begins_so

pub returns-clause-beside : goal.returns-clause-beside
returns-clause-beside c = machine_so
