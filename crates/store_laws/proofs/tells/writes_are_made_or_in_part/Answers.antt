use Rattle.store_laws.proofs.Trees.Telling.{write_told}
use Rattle.store_laws.proofs.tells.writes_are_made_or_in_part.Goals as goal

pub returns : goal.returns
returns c = write_told
