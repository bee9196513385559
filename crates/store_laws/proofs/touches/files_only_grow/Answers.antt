use Rattle.store_laws.proofs.Trees.Lengthening.{lengthens_told}
use Rattle.store_laws.proofs.touches.files_only_grow.Goals as goal

pub returns : goal.returns
returns c = lengthens_told
