use Rattle.packing_laws.proofs.SmallFiles.Fronts.{front_told}
use Rattle.packing_laws.proofs.told.a_written_front_is_told.Goals as goal

pub returns : goal.returns
returns c = front_told
