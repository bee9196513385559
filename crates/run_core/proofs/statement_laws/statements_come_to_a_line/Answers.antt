use Rattle.run_core.proofs.Statements.Coming.{comes_to_line}
use Rattle.run_core.proofs.statement_laws.statements_come_to_a_line.Goals as goal

pub returns : goal.returns
returns c = λ kept statement. comes_to_line kept statement
