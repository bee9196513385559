use Rattle.drain_laws.proofs.Courses.Course.{draining}
use Rattle.drain_laws.proofs.laws.a_driven_drain_keeps_its_target.Goals as goal

pub returns-clause-steps : goal.returns-clause-steps
returns-clause-steps c caller number name source store happened left s h made finds drives = draining caller number name source s h.tree h.target store h.told happened made finds left drives

pub returns-clause-holds : goal.returns-clause-holds
returns-clause-holds c caller number name source store happened left s h made finds drives =
    c.a_drain_keeps_its_target.ensures source number name store happened s h (draining caller number name source s h.tree h.target store h.told happened made finds left drives)
