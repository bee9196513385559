use Rattle.drain_laws.proofs.Courses.Kept.{kept_by_source}
use Rattle.drain_laws.proofs.laws.a_drain_copies_what_is_kept.Goals as goal

pub returns : goal.returns
returns c caller number name source store happened left s h kept made finds drives = kept_by_source caller number name source s h.tree h.target store h.told happened made finds left drives kept
