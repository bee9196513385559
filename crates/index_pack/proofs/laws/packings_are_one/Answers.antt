use Rattle.index_pack.proofs.Judging.{one_packing}
use Rattle.index_pack.proofs.laws.packings_are_one.Goals as goal

pub returns : goal.returns
returns c = one_packing
