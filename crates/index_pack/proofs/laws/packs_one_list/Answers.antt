use Rattle.index_pack.proofs.Judging.{one_list}
use Rattle.index_pack.proofs.laws.packs_one_list.Goals as goal

pub returns : goal.returns
returns c = one_list
