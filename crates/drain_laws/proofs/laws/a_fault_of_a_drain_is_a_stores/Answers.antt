use Rattle.drain_laws.proofs.RisenLemmas.{fault_risen}
use Rattle.drain_laws.proofs.laws.a_fault_of_a_drain_is_a_stores.Goals as goal

pub returns : goal.returns
returns c = fault_risen
