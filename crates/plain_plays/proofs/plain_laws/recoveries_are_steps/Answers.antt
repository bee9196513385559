use Rattle.plain_plays.proofs.PlainSteps.Burying.Whole.{recover_takes}
use Rattle.plain_plays.proofs.plain_laws.recoveries_are_steps.Goals as goal

pub returns : goal.returns
returns c = recover_takes
