use Rattle.tree_laws.proofs.Ledgers.{sound_tree}
use Rattle.tree_laws.proofs.Uncomplained.{unrefuted_tree}
use Rattle.tree_laws.proofs.laws.an_unsound_tree_has_a_complaint.Goals as goal

pub returns : goal.returns
returns c = λ tree holds listable unsound none. unrefuted_tree tree listable none (λ checked. unsound (sound_tree tree holds checked))
