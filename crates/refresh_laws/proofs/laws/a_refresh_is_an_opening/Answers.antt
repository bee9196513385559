use Rattle.refresh_laws.proofs.WholeLemmas.{whole}
use Rattle.refresh_laws.proofs.laws.a_refresh_is_an_opening.Goals as goal

pub returns : goal.returns
returns c = whole
