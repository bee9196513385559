use Rattle.drain_laws.proofs.RisenLemmas.{source_risen, target_risen}
use Rattle.drain_laws.proofs.laws.a_fault_is_told_of_the_store_that_failed.Goals as goal

pub returns-clause-source : goal.returns-clause-source
returns-clause-source c = source_risen

pub returns-clause-target : goal.returns-clause-target
returns-clause-target c = target_risen
