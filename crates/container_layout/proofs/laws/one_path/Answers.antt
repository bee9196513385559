use Rattle.container_layout.proofs.Places.{one_item}
use Rattle.container_layout.proofs.laws.one_path.Goals as goal

pub returns : goal.returns
returns c = λ path a b at_a at_b. one_item path a b at_a at_b
