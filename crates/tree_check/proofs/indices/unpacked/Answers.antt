use Rattle.tree_check.proofs.IndexLemmas.{none_packed}
use Rattle.tree_check.proofs.indices.unpacked.Goals as goal

pub returns-in-Err-Bad : goal.returns-in-Err-Bad
returns-in-Err-Bad c = λ entries packs. none_packed entries c.in-Err-Bad.field-0 c.in-Err-Bad.field-0-0 c.in-Err-Bad.field-0-is (c.in-Err-Bad.ensures.only entries packs)
