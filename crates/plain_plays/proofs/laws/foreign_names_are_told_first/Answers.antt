use Rattle.plain_plays.proofs.Foreign.{foreign_so}
use Rattle.plain_plays.proofs.laws.foreign_names_are_told_first.Goals as goal

pub returns : goal.returns
returns c = foreign_so
