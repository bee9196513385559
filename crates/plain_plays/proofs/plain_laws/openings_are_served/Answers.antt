use Rattle.plain_plays.proofs.PlainSteps.Opening.{opens_well}
use Rattle.plain_plays.proofs.plain_laws.openings_are_served.Goals as goal

pub returns : goal.returns
returns c = opens_well
