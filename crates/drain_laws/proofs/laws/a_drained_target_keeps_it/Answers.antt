use Rattle.drain_laws.proofs.Courses.Law.{has_drained}
use Rattle.drain_laws.proofs.laws.a_drained_target_keeps_it.Goals as goal

pub returns : goal.returns
returns c caller number name source store happened drained tree s h made finds drives left = has_drained caller number name source s h.tree h.target store h.told happened made finds drained drives tree left
