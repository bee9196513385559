use Rattle.index_pack.proofs.Growing.{one_more}
use Rattle.index_pack.proofs.runs.longer.Goals as goal

pub returns-else-run-eq1-clause-entries : goal.returns-else-run-eq1-clause-entries
returns-else-run-eq1-clause-entries c = one_more c.args.run.now c.args.entry.now c.requires.goes_on c.if-run-eq1.false
