use Rattle.packing_laws.proofs.OnlyUnits.Mounted.{mounted_units}
use Rattle.packing_laws.proofs.units.a_mounting_leaves_units_alone.Goals as goal

pub returns : goal.returns
returns c = mounted_units
