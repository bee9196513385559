use Rattle.packing_laws.proofs.Unpacking.FirstBytes.{unit_shown}
use Rattle.packing_laws.proofs.laws.a_unit_has_the_key_of_its_write.Goals as goal

pub returns : goal.returns
returns c = unit_shown
