use Rattle.packing_laws.proofs.Kept.Readers.{packed_held}
use Rattle.packing_laws.proofs.packed.later_readers_hold_packed_files.Goals as goal

pub returns : goal.returns
returns c = packed_held c.what_is_kept_stays_kept.ensures
