use Rattle.script_lang.proofs.Lines.StatementLemmas.{one_statement}
use Rattle.script_lang.proofs.spelling.statements_are_told_apart.Goals as goal

pub returns : goal.returns
returns c = record { one = one_statement }
