use Rattle.index_pack.proofs.Making.{packing}
use Rattle.index_pack.proofs.laws.entries_have_a_packing.Goals as goal

pub returns : goal.returns
returns c = packing
