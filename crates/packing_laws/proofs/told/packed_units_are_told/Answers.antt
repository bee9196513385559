use Rattle.packing_laws.proofs.SmallFiles.LaterUnits.{later_told}
use Rattle.packing_laws.proofs.told.packed_units_are_told.Goals as goal

pub returns : goal.returns
returns c = later_told
