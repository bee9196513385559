use Rattle.packing_laws.proofs.Kept.Lasting.{opened_holds}
use Rattle.packing_laws.proofs.packed.later_readers_hold_kept_writes.Goals as goal

pub returns : goal.returns
returns c = opened_holds c.what_is_kept_stays_kept.ensures
