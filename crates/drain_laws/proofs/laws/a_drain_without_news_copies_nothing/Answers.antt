use Rattle.std.proofs.Common.{refl}
use Rattle.std.specs.Prelude.{Ok}
use Rattle.drain_copy.specs.Asking.{ends}
use Rattle.drain_laws.proofs.Courses.News.{drained_nothing, nothing_new}
use Rattle.drain_laws.proofs.laws.a_drain_without_news_copies_nothing.Goals as goal

pub returns-clause-nothing : goal.returns-clause-nothing
returns-clause-nothing c caller number name source store happened left s h made finds has drives = nothing_new caller number name source s h.tree h.target store h.told happened made finds left drives has

pub returns-clause-none : goal.returns-clause-none
returns-clause-none c caller number name source store happened drained s h made finds has drives = drained_nothing caller number name source s h.tree h.target store h.told happened made finds (ends (Ok drained)) drives has drained refl
