use Rattle.run_core.proofs.Statements.Works.{work_safe}
use Rattle.run_core.proofs.statement_laws.statements_are_always_allowed.Goals as goal

pub returns : goal.returns
returns c = λ caller kept statement state some few fine. work_safe caller kept statement state some few fine
