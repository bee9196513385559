use Rattle.drain_laws.proofs.Courses.Course.{reads}
use Rattle.drain_laws.proofs.Courses.Kept.{no_bare_log}
use Rattle.drain_laws.proofs.laws.a_drain_reads_behind_its_target.Goals as goal

pub returns-clause-behind : goal.returns-clause-behind
returns-clause-behind c caller number name source store happened left s h bare made finds drives =
    reads caller number name source s h.tree h.target store h.told happened made finds left drives (λ n room at host writer is none. bare h.tree n room h.told at host writer is none)

pub returns-clause-lasts : goal.returns-clause-lasts
returns-clause-lasts c caller number name source store happened left s h bare made finds drives = no_bare_log caller number name source s h.tree h.target store h.told happened made finds left drives bare
