use Rattle.plain_plays.proofs.PlainSteps.Truncating.{truncates_above}
use Rattle.plain_plays.proofs.plain_laws.truncates_take_the_next_stamp.Goals as goal

pub returns : goal.returns
returns c = truncates_above
