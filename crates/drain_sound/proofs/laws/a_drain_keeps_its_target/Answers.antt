use Rattle.drain_sound.proofs.DrainLemmas.{drain_holds}
use Rattle.drain_sound.proofs.laws.a_drain_keeps_its_target.Goals as goal

pub returns : goal.returns
returns c source number name store happened s h d = drain_holds number name c.a_lost_tree_is_sound.ensures source store happened s h d
