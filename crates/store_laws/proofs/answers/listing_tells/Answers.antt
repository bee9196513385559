use Rattle.store_laws.proofs.Looks.Answering.{list_tells}
use Rattle.store_laws.proofs.answers.listing_tells.Goals as goal

pub returns : goal.returns
returns c = list_tells
