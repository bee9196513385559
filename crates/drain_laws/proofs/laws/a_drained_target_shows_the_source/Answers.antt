use Rattle.drain_laws.proofs.Courses.Law.{shows_it}
use Rattle.drain_laws.proofs.laws.a_drained_target_shows_the_source.Goals as goal

pub returns : goal.returns
returns c caller number name source store happened drained tree s h made finds drives left =
    shows_it caller number name source s h.tree h.target store h.told happened made finds drained drives (λ last was lost target loses. c.a_loss_keeps_the_target.ensures last number name was lost target loses) tree left
