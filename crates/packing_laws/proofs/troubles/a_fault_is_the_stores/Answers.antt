use Rattle.packing_laws.proofs.Endings.Causes.{named_caused, packed_caused, unpacked_caused}
use Rattle.packing_laws.proofs.troubles.a_fault_is_the_stores.Goals as goal

pub returns-clause-unpack : goal.returns-clause-unpack
returns-clause-unpack c = unpacked_caused

pub returns-clause-names : goal.returns-clause-names
returns-clause-names c = named_caused

pub returns-clause-pack : goal.returns-clause-pack
returns-clause-pack c = packed_caused
