use Rattle.flatten_core.proofs.EndLemmas.{not_ended}
use Rattle.flatten_core.proofs.parts.end_on.Goals as goal

pub returns-in_default-clause-underway : goal.returns-in_default-clause-underway
returns-in_default-clause-underway c = (c.requires, not_ended c.args.started.room c.args.started.flat c.args.stage c.requires c.in_default.not-Ended)
