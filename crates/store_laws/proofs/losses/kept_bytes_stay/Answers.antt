use Rattle.store_laws.proofs.Trees.Sparing.{kept_told}
use Rattle.store_laws.proofs.losses.kept_bytes_stay.Goals as goal

pub returns : goal.returns
returns c = kept_told
