use Rattle.drain_sound.proofs.FirstLemmas.{first_target}
use Rattle.drain_sound.proofs.laws.a_tree_without_it_is_a_target.Goals as goal

pub returns : goal.returns
returns c = first_target
