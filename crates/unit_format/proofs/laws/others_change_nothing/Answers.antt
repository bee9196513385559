use Rattle.unit_format.proofs.Isolation.{isolated}
use Rattle.unit_format.proofs.laws.others_change_nothing.Goals as goal

pub returns : goal.returns
returns c = isolated
