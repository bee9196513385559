use Rattle.index_entry.proofs.Judgements.{only, exact}
use Rattle.index_entry.proofs.reading.decode.Goals as goal

pub returns-clause-only : goal.returns-clause-only
returns-clause-only c = only c.args.bytes.now c.numbers.result c.judge.result c.numbers.ensures c.judge.ensures.valid c.judge.ensures.broken

pub returns-clause-exact : goal.returns-clause-exact
returns-clause-exact c = exact c.args.bytes.now c.numbers.result c.judge.result c.numbers.ensures c.judge.ensures.valid c.judge.ensures.broken
