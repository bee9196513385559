use Rattle.std.proofs.Common.{refl}
use Rattle.std.specs.Prelude.{Err}
use Rattle.drain_copy.specs.declared.outcome.DrainStuck.TheVariants.{TargetDamaged}
use Rattle.drain_copy.specs.Asking.{ends}
use Rattle.drain_laws.proofs.Courses.Kept.{openhosts_last}
use Rattle.drain_laws.proofs.Courses.Stopped.{never_lacks, why_ended}
use Rattle.drain_laws.proofs.laws.a_target_shows_no_damage.Goals as goal

pub returns-clause-none : goal.returns-clause-none
returns-clause-none c caller number name source store happened folder file place s h opens made finds drives =
    never_lacks caller number name source store happened folder file place
    (openhosts_last caller number name source s h.tree h.target store h.told happened made finds (ends (Err (TargetDamaged folder file place))) drives opens)
    (why_ended caller number name source s h.tree h.target store h.told happened made finds (ends (Err (TargetDamaged folder file place))) drives (TargetDamaged folder file place) refl)

pub returns-clause-lasts : goal.returns-clause-lasts
returns-clause-lasts c caller number name source store happened left s h opens made finds drives = openhosts_last caller number name source s h.tree h.target store h.told happened made finds left drives opens
