use Rattle.plfs_tests.proofs.Apart.{fresh_apart}
use Rattle.plfs_tests.proofs.several.three.Goals as goal

pub open-requires-clause-apart : goal.open-requires-clause-apart
open-requires-clause-apart c = λ told. fresh_apart c.in_ok-stores.stores c.in_ok-stores.ensures.fresh
