use Rattle.packing_laws.proofs.Kept.Lasting.{keeps_mounts}
use Rattle.packing_laws.proofs.packed.kept_writes_stay.Goals as goal

pub returns-clause-sound : goal.returns-clause-sound
returns-clause-sound c = λ mounts m now d writes sound later k. (keeps_mounts c.what_is_kept_stays_kept.ensures mounts m now d writes sound later k).0

pub returns-clause-kept : goal.returns-clause-kept
returns-clause-kept c = λ mounts m now d writes sound later k. (keeps_mounts c.what_is_kept_stays_kept.ensures mounts m now d writes sound later k).1
