use Rattle.store_laws.proofs.Looks.Listed.{names_are_one}
use Rattle.store_laws.proofs.answers.listings_are_one.Goals as goal

pub returns : goal.returns
returns c = names_are_one
