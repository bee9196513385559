use Rattle.packing_laws.proofs.Kept.Packing.{packed_keeps}
use Rattle.packing_laws.proofs.packed.packed_files_are_kept.Goals as goal

pub returns : goal.returns
returns c = packed_keeps c.what_is_kept_stays_kept.ensures
