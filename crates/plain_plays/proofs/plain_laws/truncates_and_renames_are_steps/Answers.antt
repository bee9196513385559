use Rattle.plain_plays.proofs.PlainSteps.ByName.Cutting.{truncate_takes}
use Rattle.plain_plays.proofs.PlainSteps.ByName.Renaming.{rename_takes}
use Rattle.plain_plays.proofs.plain_laws.truncates_and_renames_are_steps.Goals as goal

pub returns-clause-truncates : goal.returns-clause-truncates
returns-clause-truncates c = truncate_takes

pub returns-clause-renames : goal.returns-clause-renames
returns-clause-renames c = rename_takes
