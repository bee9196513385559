use Rattle.std.proofs.Common.{inr}
use Rattle.plfs.proofs.obey_import.Goals as goal

pub returns-in_default-clause-usage : goal.returns-in_default-clause-usage
returns-in_default-clause-usage g c = λ wrong. c.obey_export.ensures.usage (λ command is. wrong (inr (command, is)))
