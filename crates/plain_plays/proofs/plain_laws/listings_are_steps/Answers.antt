use Rattle.plain_plays.proofs.PlainSteps.ByName.Naming.{names_take}
use Rattle.plain_plays.proofs.plain_laws.listings_are_steps.Goals as goal

pub returns : goal.returns
returns c = names_take
