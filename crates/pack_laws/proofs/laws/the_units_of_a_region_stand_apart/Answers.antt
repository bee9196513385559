use Rattle.pack_laws.proofs.Apart.{units_apart}
use Rattle.pack_laws.proofs.laws.the_units_of_a_region_stand_apart.Goals as goal

pub returns : goal.returns
returns c = units_apart
