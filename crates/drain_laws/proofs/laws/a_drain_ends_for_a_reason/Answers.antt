use Rattle.std.proofs.Common.{refl}
use Rattle.std.specs.Prelude.{Err}
use Rattle.drain_copy.specs.Asking.{ends}
use Rattle.drain_laws.proofs.Courses.Stopped.{why_ended}
use Rattle.drain_laws.proofs.laws.a_drain_ends_for_a_reason.Goals as goal

pub returns : goal.returns
returns c caller number name source store happened why s h made finds drives = why_ended caller number name source s h.tree h.target store h.told happened made finds (ends (Err why)) drives why refl
