use Rattle.std.proofs.Common.{refl}
use Rattle.std.specs.Prelude.{Ok, Err}
use Rattle.drain_copy.specs.declared.outcome.DrainStuck.TheVariants.{Taken}
use Rattle.drain_copy.specs.Asking.{ends}
use Rattle.drain_laws.proofs.Courses.Stopped.{its_taken, why_ended}
use Rattle.drain_laws.proofs.Courses.Taken.{none_was_taken}
use Rattle.drain_laws.proofs.laws.a_drain_is_taken_by_one_that_went_on.Goals as goal

pub returns-clause-taken : goal.returns-clause-taken
returns-clause-taken c caller number name source store happened writer there here s h made finds drives =
    its_taken caller number name source store happened writer there here
    (why_ended caller number name source s h.tree h.target store h.told happened made finds (ends (Err (Taken writer there here))) drives (Taken writer there here) refl)

pub returns-clause-none : goal.returns-clause-none
returns-clause-none c caller number name source store happened drained s h made finds drives = none_was_taken caller number name source s h.tree h.target store h.told happened made finds (ends (Ok drained)) drives drained refl
