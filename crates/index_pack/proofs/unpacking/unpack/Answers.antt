use Rattle.index_pack.proofs.Judging.{only, exact}
use Rattle.index_pack.proofs.unpacking.unpack.Goals as goal

pub returns-clause-only : goal.returns-clause-only
returns-clause-only c = only c.args.bytes.now c.judged.result c.judged.ensures.found c.judged.ensures.bad

pub returns-clause-exact : goal.returns-clause-exact
returns-clause-exact c = exact c.args.bytes.now c.judged.result c.judged.ensures.found c.judged.ensures.bad
