use Rattle.drain_laws.proofs.Courses.Law.{drained_there}
use Rattle.drain_laws.proofs.laws.a_drain_that_ends_well_has_copied.Goals as goal

pub returns : goal.returns
returns c caller number name source store happened drained s h made finds drives = drained_there caller number name source s h.tree h.target store h.told happened made finds drained drives
